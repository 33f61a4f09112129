use Rattle.std.proofs.Common.{rules, arith}
use Rattle.columns.proofs.Lengths.{places}
use Rattle.columns.proofs.sound.SoundLists.part.Goals as goal

pub slice_bounds-result-count : goal.slice_bounds-result-count
slice_bounds-result-count c = let p = places c.args.self.now.lists c.args.i c.args.self.now.shaped c.args.self.now.ordered c.requires in omega (arith, p.0, c.place-base.ensures, c.place-end.ensures)

pub slice_bounds-result-start : goal.slice_bounds-result-start
slice_bounds-result-start c = let p = places c.args.self.now.lists c.args.i c.args.self.now.shaped c.args.self.now.ordered c.requires in search rules
