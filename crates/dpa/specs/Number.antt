-- Document 01, "Frames": two-byte numbers are stored low byte first.
use Rattle.std.specs.Prelude.{ℕ, ◌+◌, ◌*◌, ◌/◌, ◌%◌, List, get_or}

abbrev pub low : ℕ → ℕ
low x = x % 256

abbrev pub high : ℕ → ℕ
high x = x / 256

-- the number with a given low and high byte
abbrev pub word : ℕ → ℕ → ℕ
word low high = low + 256 * high

-- the two-byte number at place i of a list
abbrev pub word_at : List ℕ → ℕ → ℕ
word_at s i = word (get_or s i 0) (get_or s (i + 1) 0)
