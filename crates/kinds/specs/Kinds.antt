-- The kind of a column.
use Rattle.std.specs.Prelude.{Bool, cond}
use Rattle.encoding.specs.Offsets.{wide_of}
use Rattle.columns.specs.OffsetColumn.{lists_of}
use Rattle.kinds.specs.declared.column.Column.{Column}
use Rattle.kinds.specs.declared.column.Column.TheVariants.{Offset, Unbuilt}
use Rattle.kinds.specs.declared.kind.Kind.{Kind}
use Rattle.kinds.specs.declared.kind.Kind.TheVariants.{Utf8, LargeUtf8, Binary, LargeBinary}

-- by the text mark, and whether the offsets have 64 bits
abbrev pub offset_kind : Bool → Bool → Kind
offset_kind text wide = cond text (cond wide LargeUtf8 Utf8) (cond wide LargeBinary Binary)

abbrev pub kind_of : Column → Kind
kind_of (Offset c) = offset_kind (lists_of c).text (wide_of (lists_of c).offsets)
kind_of (Unbuilt k) = k
