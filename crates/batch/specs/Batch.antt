-- Document 01, "Taking a request", OS 02, batch, with document 02, change 1: the bytes of a list of entries, how they are read, why a
-- list cannot be read, and running entries in order.
use Rattle.std.specs.Prelude.{ℕ, zero, suc, ◌+◌, ◌-◌, ◌≤◌, ◌<◌, List, [], ◌∷◌, ◌++◌, Bool, cond, ◌&&◌, ◌≡◌, length, get_or, take, ltb, eqb}
use Rattle.dpa.specs.Number.{low, high, word_at}
use Rattle.dpa.specs.Lists.{Bytes, slice}

-- the PCMD of a batch
abbrev pub batch_pcmd : ℕ
batch_pcmd = 0x05

-- ---- entries and their bytes

-- a request without an address: a batch entry, or a frame without NADR
pub record Request : Type 0 where
  pub pnum : ℕ
  pub pcmd : ℕ
  pub hwpid : ℕ
  pub pdata : List ℕ

abbrev pub request_of : (pnum pcmd hwpid : ℕ) → List ℕ → Request
request_of pnum pcmd hwpid pdata = record { pnum = pnum; pcmd = pcmd; hwpid = hwpid; pdata = pdata }

-- size of an entry's head: length, PNUM, PCMD and HWPID
abbrev pub entry_head_size : ℕ
entry_head_size = 5

-- the byte that ends a list, in place of an entry's length
abbrev pub closing_zero : ℕ
closing_zero = 0

-- the head of an entry with `size` bytes of PData: the entry's length including this byte, PNUM, PCMD, HWPID
abbrev pub head_bytes : (size pnum pcmd hwpid : ℕ) → List ℕ
head_bytes size pnum pcmd hwpid = (entry_head_size + size) ∷ pnum ∷ pcmd ∷ low hwpid ∷ high hwpid ∷ []

-- an entry: its head, then its PData
unfoldable pub entry_bytes : Request → List ℕ
entry_bytes i = head_bytes (length i.pdata) i.pnum i.pcmd i.hwpid ++ i.pdata

unfoldable pub entries_bytes : List Request → List ℕ
entries_bytes [] = []
entries_bytes (i ∷ is) = entry_bytes i ++ entries_bytes is

-- a list: its entries, then the closing zero
abbrev pub list_bytes : List Request → List ℕ
list_bytes is = entries_bytes is ++ (closing_zero ∷ [])

-- an entry whose fields fit their bytes
pub record Sendable (i : Request) : Type 0 where
  pub pnum_byte : i.pnum < 256
  pub pcmd_byte : i.pcmd < 256
  pub hwpid_word : i.hwpid < 65536
  pub pdata_bytes : Bytes i.pdata
  pub size : entry_head_size + length i.pdata ≤ 255

-- ---- reading a list

-- only the closing zero is left
abbrev pub at_end : List ℕ → Bool
at_end s = eqb (length s) 1 && eqb (get_or s 0 0) closing_zero

-- why no entry can be read:

-- a length of 1 to 4
abbrev pub short_reason : ℕ
short_reason = 1

-- an entry that runs past the end of the list
abbrev pub past_end_reason : ℕ
past_end_reason = 2

-- no closing zero
abbrev pub unclosed_reason : ℕ
unclosed_reason = 3

-- bytes after the closing zero
abbrev pub trailing_reason : ℕ
trailing_reason = 4

-- what is at the front of a list: an entry with its length, PNUM, PCMD and HWPID, or a reason and a position
pub data NextEntry : Type 0 where
  Entry : (length pnum pcmd hwpid : ℕ) → NextEntry
  Fault : (reason at : ℕ) → NextEntry

-- The front of a list that is not at its end: an entry, or a reason and a position, counted from the first of these bytes.
unfoldable pub next_entry : List ℕ → NextEntry
next_entry s =
    cond (eqb (length s) 0) (Fault unclosed_reason 0)
    (cond (eqb (get_or s 0 0) closing_zero) (Fault trailing_reason 1)
    (cond (ltb (get_or s 0 0) entry_head_size) (Fault short_reason 0)
    (cond (ltb (length s) (get_or s 0 0)) (Fault past_end_reason 0)
    (Entry (get_or s 0 0) (get_or s 1 0) (get_or s 2 0) (word_at s 3)))))

-- the ErrN of a batch at this point: an entry is no error, a fault is ErrN 6
abbrev pub next_entry_error : NextEntry → ℕ
next_entry_error (Entry l p c h) = 0
next_entry_error (Fault r a) = 6

-- what the check of a list gives: it is sound, or it is broken for a reason at a place
pub data ListCheck : Type 0 where
  Sound : ListCheck
  Broken : (reason at : ℕ) → ListCheck

-- a list that was read: the entries before its end or its first fault, and which of the two came
pub record Reading : Type 0 where
  pub entries : List Request
  pub check : ListCheck

-- a list without entries
abbrev pub empty_reading : ListCheck → Reading
empty_reading x = record { entries = []; check = x }

-- the number of bytes of the next entry
abbrev pub entry_length : NextEntry → ℕ
entry_length (Entry l p c h) = l
entry_length (Fault r a) = 0

-- the same check, with the place of a fault l bytes later
abbrev pub shift_fault : ℕ → ListCheck → ListCheck
shift_fault l Sound = Sound
shift_fault l (Broken r a) = Broken r (l + a)

-- a fault breaks the list; an entry does not
abbrev pub fault_of : NextEntry → ListCheck
fault_of (Entry l p c h) = Sound
fault_of (Fault r a) = Broken r a

-- the entry at the front of s, then the reading r of the rest; a fault ends the reading
abbrev pub prepend_entry : NextEntry → List ℕ → Reading → Reading
prepend_entry (Entry l p c h) s r =
    record {
      entries = request_of p c h (slice s entry_head_size (l - entry_head_size)) ∷ r.entries;
      check = shift_fault l r.check;
    }
prepend_entry (Fault k a) s r = empty_reading (fault_of (Fault k a))

-- Reads s from position k: skips k bytes, stops at the closing zero, else reads an entry and then the rest after it.
unfoldable pub reading_from : List ℕ → ℕ → Reading
reading_from [] k = empty_reading (Broken unclosed_reason 0)
reading_from (b ∷ s) (suc k) = reading_from s k
reading_from (b ∷ s) zero =
    cond (at_end (b ∷ s)) (empty_reading Sound)
    (prepend_entry (next_entry (b ∷ s)) (b ∷ s) (reading_from s (entry_length (next_entry (b ∷ s)) - 1)))

abbrev pub reading : List ℕ → Reading
reading s = reading_from s 0

-- the ErrN of a batch whose list gave this result
abbrev pub list_error : ListCheck → ℕ
list_error Sound = 0
list_error (Broken r a) = next_entry_error (Fault r a)

-- the reason and the place of a check; 0 and 0 for a sound list
abbrev pub reason_of : ListCheck → ℕ
reason_of Sound = 0
reason_of (Broken r a) = r

abbrev pub place_of : ListCheck → ℕ
place_of Sound = 0
place_of (Broken r a) = a

-- ---- what a reason and a place say about the bytes of a list, without the reader

-- what reason r at position a says about the bytes of the list s
pub data FaultAt (s : List ℕ) (r a : ℕ) : Type 0 where
  short : r ≡ short_reason → a < length s → 0 < get_or s a 0 → get_or s a 0 < entry_head_size → FaultAt s r a
  past_end : r ≡ past_end_reason → a < length s → entry_head_size ≤ get_or s a 0 → length s < a + get_or s a 0 → FaultAt s r a
  unclosed : r ≡ unclosed_reason → a ≡ length s → FaultAt s r a
  trailing : r ≡ trailing_reason → 0 < a → a < length s → get_or s (a - 1) 0 ≡ closing_zero → FaultAt s r a

-- where the entries before place a end: at the place; for bytes after the closing zero, at that zero
abbrev pub entries_end : ℕ → ℕ → ℕ
entries_end r a = cond (eqb r trailing_reason) (a - 1) a

-- the list s has fault r at place a: whole entries lead up to it
pub record ListFault (s : List ℕ) (r a : ℕ) : Type 0 where
  pub entries : List Request
  pub before : take (entries_end r a) s ≡ entries_bytes entries
  pub fault : FaultAt s r a

-- the list s is whole entries, then the closing zero
pub record SoundList (s : List ℕ) : Type 0 where
  pub entries : List Request
  pub whole : s ≡ list_bytes entries

-- ---- running entries

-- runs entries in order, each on the state that the previous one left; f is the effect of an entry
unfoldable pub run_entries : {S : Type 0} → (Request → S → S) → List Request → S → S
run_entries f [] st = st
run_entries f (i ∷ is) st = run_entries f is (f i st)

-- the ErrN of each entry, in order; e is the ErrN of an entry
unfoldable pub errors_of : {S : Type 0} → (Request → S → ℕ) → (Request → S → S) → List Request → S → List ℕ
errors_of e f [] st = []
errors_of e f (i ∷ is) st = e i st ∷ errors_of e f is (f i st)
