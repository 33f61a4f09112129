-- The formats of a column, as letters.
use Rattle.std.specs.Prelude.{ℕ, ◌≤◌, List, ◌++◌, codes, decimal}
use Rattle.records.specs.declared.format.Format.{Format}
use Rattle.records.specs.declared.format.Format.TheVariants.{Utf8, LargeUtf8, Binary, LargeBinary, Utf8View, BinaryView, FixedSizeBinary}

-- how a format is written
abbrev pub letters : Format → List ℕ
letters Utf8 = codes "u"
letters LargeUtf8 = codes "U"
letters Binary = codes "z"
letters LargeBinary = codes "Z"
letters Utf8View = codes "vu"
letters BinaryView = codes "vz"
letters (FixedSizeBinary w) = codes "w:" ++ decimal w

-- a width is at most the largest number of 32 bits with a sign
abbrev pub Lawful : Format → Type 0
Lawful Utf8 = Unit {0}
Lawful LargeUtf8 = Unit {0}
Lawful Binary = Unit {0}
Lawful LargeBinary = Unit {0}
Lawful Utf8View = Unit {0}
Lawful BinaryView = Unit {0}
Lawful (FixedSizeBinary w) = w ≤ 2147483647
