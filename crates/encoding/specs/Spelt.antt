-- Being text, as a test.
-- Assumes nothing.
use Rattle.std.specs.Prelude.{ℕ, Bool, ◌&&◌, List, bytes_eq}
use Rattle.std.proofs.Math.Utf8.{scalars, encodes}
use Rattle.std.specs.Str.{chars}

-- whether these bytes are text, as a test: decoding and encoding again gives them back
unfoldable pub is_text : List ℕ → Bool
is_text s = scalars (chars s) && bytes_eq (encodes (chars s)) s
