-- Version text: 1 to 16 letters, digits, underscores, hyphens and dots, then only 00 (01's line as 02, 2026-04, amends it). Assumes nothing.
use Rattle.std.specs.Prelude.{ℕ, suc, Bool, true, ◌&&◌, ◌||◌, List, [], ◌∷◌, eqb, leb, length, drop}
use Rattle.basis.specs.Choice.{pick}

abbrev pub letter : ℕ → Bool
letter b = (leb 0x41 b && leb b 0x5A) || (leb 0x61 b && leb b 0x7A)

abbrev pub digit : ℕ → Bool
digit b = leb 0x30 b && leb b 0x39

-- a byte that version text may hold: a letter, a digit, an underscore, a hyphen or a dot
unfoldable pub version_character : ℕ → Bool
version_character b = letter b || (digit b || (eqb b 0x5F || (eqb b 0x2D || eqb b 0x2E)))

-- how many such bytes the list starts with
unfoldable pub front : List ℕ → ℕ
front [] = 0
front (b ∷ bs) = pick (version_character b) (suc (front bs)) 0

-- only 00
unfoldable pub all_zero : List ℕ → Bool
all_zero [] = true
all_zero (b ∷ bs) = eqb b 0 && all_zero bs

unfoldable pub good_version : List ℕ → Bool
good_version v = eqb (length v) 16 && (leb 1 (front v) && all_zero (drop (front v) v))
