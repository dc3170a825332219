-- Document 01, "Worked examples": the scene book.
use Rattle.std.specs.Prelude.{List, [], ◌∷◌, ℕ}

-- a book of one scene: lamp 0 to 10, lamp 2 to 100 for two minutes
abbrev pub book : List ℕ
book = 0x01 ∷ 0x04 ∷ 0x00 ∷ 0x02 ∷ 0x00 ∷ 0x00 ∷ 0x0A ∷ 0x00 ∷ 0x00 ∷ 0x02 ∷ 0x64 ∷ 0x02 ∷ []
