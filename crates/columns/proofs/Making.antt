-- What making a column by offsets answers, over lists whose counts, sizes and offsets are right.
use Rattle.std.proofs.Common.{◌≡◌, true, ap, subst}
use Rattle.columns.specs.declared.fault.ColumnFault.{ColumnFault}
use Rattle.columns.specs.declared.fault.ColumnFault.TheVariants.{Shape, Offset, View, Text}
use Rattle.columns.specs.declared.lists.Lists.{Lists}
use Rattle.columns.specs.declared.sound.SoundLists.{SoundLists}
use Rattle.columns.specs.Grounds.{FirstIllFormed, Refused}
use Rattle.columns.specs.Lists.{Shaped, Ordered, TextsTo, TextsTested, meaning_of, lengths_of}
use Rattle.columns.specs.OffsetColumn.{Granted}

pub granted : (l : Lists) (s : SoundLists) (t : TextsTested s.lists) → s.lists ≡ l → TextsTo s.lists s.lists.rows → Granted l (record { sound = s; texts = t })
unfolding lengths_of
granted l s t q x = record {
  kept = q;
  shaped = subst Shaped q s.shaped;
  ordered = subst Ordered q s.ordered;
  texts = subst (λ (k : Lists). TextsTo k k.rows) q x;
  rows = ap meaning_of q;
  lengths = ap lengths_of q;
}

refused_at : (s : SoundLists) (f : ColumnFault) → s.lists.text ≡ true → FirstIllFormed s.lists f → Refused s.lists f
refused_at s Shape t h = absurd h
refused_at s (Offset row) t h = absurd h
refused_at s (View row) t h = absurd h
refused_at s (Text row fault) t h = (s.shaped, s.ordered, t, h)

pub refused : (l : Lists) (s : SoundLists) (f : ColumnFault) → s.lists ≡ l → s.lists.text ≡ true → FirstIllFormed s.lists f → Refused l f
refused l s f q t h = subst (λ (k : Lists). Refused k f) q (refused_at s f t h)
