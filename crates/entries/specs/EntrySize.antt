-- The PData size of an entry, for any limit, and the first entry of a list of steps.
use Rattle.std.specs.Prelude.{cond, ◌&&◌, Option, Some, None, List, ◌∷◌, ◌≡◌, ℕ, ◌+◌, ◌≤◌, leb, eqb, length, take, drop}
use Rattle.dpa.specs.Frame.{pdata_max}
use Rattle.lights.specs.Bits.{bitmap_size}
use Rattle.book.specs.declared.step.Step.{Step}
use Rattle.step.specs.Step.{is_lamp}
use Rattle.entries.specs.Entry.{group_data}
use Rattle.entries.specs.Join.{follows, entries_of}

-- the PData size of a step in a lamp entry, and in an entry of kind k
unfoldable pub power_size : Step → ℕ
power_size s = cond (eqb s.time 0) 1 2

unfoldable pub step_size : ℕ → Step → ℕ
step_size k s = cond (is_lamp k) (power_size s) 1

-- size of the address at the front of a memory entry's PData; a lamp entry's starts with a bitmap (`bitmap_size`)
abbrev pub address_length : ℕ
address_length = 1

-- the PData size of an entry of one step
unfoldable pub first_size : Step → ℕ
first_size s = step_size s.kind s + cond (is_lamp s.kind) bitmap_size address_length

-- the largest such size: a bitmap, a power byte and a time byte
abbrev pub one_step_max : ℕ
one_step_max = bitmap_size + 2

-- the PData size of an entry of kind k and `size` bytes after x joins it, or none if x does not join; p is its last step
unfoldable pub joined_size : (limit : ℕ) (p x : Step) (k size : ℕ) → Option ℕ
joined_size limit p x k size = cond (follows p x && leb (step_size k x + size) limit) (Some (step_size k x + size)) None

-- a usable limit: any single step fits into an entry, and the entry's PData fits into a frame
pub record EntryLimit (limit : ℕ) : Type 0 where
  pub step : one_step_max ≤ limit
  pub frame : limit ≤ pdata_max

-- the first entry has k steps and `size` bytes of PData
pub record FirstEntry (limit : ℕ) (ss : List Step) (k size : ℕ) : Type 0 where
  -- at least one of the steps
  pub some : 1 ≤ k
  pub within : k ≤ length ss
  -- the size of its PData, within the limit
  pub size_max : size ≤ limit
  pub size_is : size ≡ length (group_data (take k ss))
  -- the other entries are those of the other steps
  pub first : entries_of limit ss ≡ take k ss ∷ entries_of limit (drop k ss)
