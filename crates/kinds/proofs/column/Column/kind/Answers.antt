use Rattle.std.proofs.Common.{Bool, sym, ap, ◌∙◌}
use Rattle.columns.specs.OffsetColumn.{lists_of}
use Rattle.columns.specs.Meanings.{meaning_text}
use Rattle.kinds.specs.Kinds.{offset_kind, kind_of}
use Rattle.kinds.proofs.column.Column.kind.Goals as goal

pub returns-in-Offset : goal.returns-in-Offset
returns-in-Offset c =
    let l = lists_of c.in-Offset.c in
    c.offset_kind.ensures
    ∙ ap (λ (t : Bool). offset_kind t c.is_wide.result) (c.is_text.ensures ∙ meaning_text l)
    ∙ ap (offset_kind l.text) c.is_wide.ensures.value
    ∙ sym (ap kind_of c.in-Offset.is)
