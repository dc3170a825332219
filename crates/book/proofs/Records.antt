-- Laws of records of a fixed width, for any width and any way to read and write a record.
use mathlib.Core.List.{List, [], ◌∷◌, ◌++◌, append_assoc}
use mathlib.Core.Path.{◌≡◌, refl, sym, ap, ◌∙◌}
use Prim.Native.Nat.{ℕ, zero, suc, ◌+◌, ◌*◌, ◌-◌, ◌≤◌, ◌<◌}
use native.Mathlib.Nat.{add_comm, mul-zero, mul-suc, sub-zero}
use native.Mathlib.Numerals.{add-one}
use native.Mathlib.Omega.{arith}
use lib.ListN.{length, get_or, take, drop, length-append, drop_of_length-le}
use lib.Seq.{take-suc, take_all, take-add, drop_at, drop-drop}
use Rattle.dpa.specs.Lists.{Bytes, All}
use Rattle.dpa.proofs.Bytes.{bytes_nil, bytes_append}
use Rattle.book.specs.Records.{records, bytes_of}

module _ {A : Type 0} (width : ℕ) (read : List ℕ → A) where
  -- where record `suc i` starts, seen from record 1
  pub drop_record : (bs : List ℕ) (i : ℕ) → drop (width * i) (drop width bs) ≡ drop (width * suc i) bs
  drop_record bs i = drop-drop (width * i) width bs ∙ ap (λ (k : ℕ). drop k bs) (add_comm width (width * i) ∙ sym (mul-suc width i))

  -- the list of n records has n elements
  pub records_length : (n : ℕ) (bs : List ℕ) → length (records width read n bs) ≡ n
  records_length zero bs = refl
  records_length (suc n) bs = ap suc (records_length n (drop width bs))

  -- record i is read at byte `width * i`
  pub records_at : (n : ℕ) (bs : List ℕ) (i : ℕ) (d : A) → i < n → get_or (records width read n bs) i d ≡ read (drop (width * i) bs)
  records_at zero bs i d h = absurd (omega arith)
  records_at (suc n) bs zero d h = rw (mul-zero width)
  records_at (suc n) bs (suc i) d h = records_at n (drop width bs) i d (omega arith) ∙ ap read (drop_record bs i)

  -- the records from record d on are read from byte `width * d` on
  pub records_drop : (n d : ℕ) (bs : List ℕ) → d ≤ n → records width read (n - d) (drop (width * d) bs) ≡ drop d (records width read n bs)
  records_drop n zero bs h = rw (sub-zero n, mul-zero width)
  records_drop zero (suc d) bs h = absurd (omega arith)
  records_drop (suc n) (suc d) bs h =
      let e : suc n - suc d ≡ n - d = omega arith in
      rw (e, ← (drop_record bs d)) (records_drop n d (drop width bs) (omega arith))

  -- the first k of n records are k records
  pub records_take : (n k : ℕ) (bs : List ℕ) → k ≤ n → take k (records width read n bs) ≡ records width read k bs
  records_take n zero bs h = refl
  records_take zero (suc k) bs h = absurd (omega arith)
  records_take (suc n) (suc k) bs h = ap (λ (l : List A). read bs ∷ l) (records_take n k (drop width bs) (omega arith))

  -- ---- a loop over the records

  -- record i comes next
  pub records_next : (n : ℕ) (bs : List ℕ) (i : ℕ) → i < n
      → drop i (records width read n bs) ≡ read (drop (width * i) bs) ∷ drop (suc i) (records width read n bs)
  records_next zero bs i h = absurd (omega arith)
  records_next (suc n) bs zero h = rw (mul-zero width)
  records_next (suc n) bs (suc i) h = rw (records_next n (drop width bs) i (omega arith), drop_record bs i)

  -- after n records none is left
  pub records_end : (n : ℕ) (bs : List ℕ) (i : ℕ) → n ≤ i → drop i (records width read n bs) ≡ []
  records_end n bs i h = drop_of_length-le (records width read n bs) {i = i} (omega (arith, records_length n bs))

  -- the first i + 1 records end with record i
  pub records_taken : (n : ℕ) (bs : List ℕ) (i : ℕ) → i < n
      → take (i + 1) (records width read n bs) ≡ take i (records width read n bs) ++ (read (drop (width * i) bs) ∷ [])
  records_taken n bs i h =
      rw (add-one i, ← (records_at n bs i (read []) h)) (take-suc (records width read n bs) i (read []) (omega (arith, records_length n bs)))

  -- the first n records are all
  pub records_all : (n : ℕ) (bs : List ℕ) (i : ℕ) → n ≤ i → take i (records width read n bs) ≡ records width read n bs
  records_all n bs i h = take_all i (records width read n bs) (omega (arith, records_length n bs))

-- ---- the bytes of records

module _ {A : Type 0} (write : A → List ℕ) where
  -- the bytes of two lists in a row
  pub bytes_of_append : (xs ys : List A) → bytes_of write (xs ++ ys) ≡ bytes_of write xs ++ bytes_of write ys
  bytes_of_append [] ys = refl
  bytes_of_append (x ∷ xs) ys = rw (bytes_of_append xs ys, append_assoc (write x) (bytes_of write xs) (bytes_of write ys))

  -- elements that are written as bytes
  pub bytes_of_bytes : (xs : List A) → All (λ x. Bytes (write x)) xs → Bytes (bytes_of write xs)
  bytes_of_bytes [] a = bytes_nil
  bytes_of_bytes (x ∷ xs) a = bytes_append (write x) (bytes_of write xs) a.0 (bytes_of_bytes xs a.1)

  -- elements of one width
  pub bytes_of_length : (width : ℕ) → ((x : A) → length (write x) ≡ width) → (xs : List A) → length (bytes_of write xs) ≡ width * length xs
  bytes_of_length width h [] = sym (mul-zero width)
  bytes_of_length width h (x ∷ xs) =
      rw (length-append (write x) (bytes_of write xs), h x, bytes_of_length width h xs, mul-suc width (length xs), add_comm (width * length xs) width)

  module _ (width : ℕ) (read : List ℕ → A) where
    -- written, then read
    pub records_read : ((x : A) → length (write x) ≡ width) → ((x : A) (rest : List ℕ) → read (write x ++ rest) ≡ x)
        → (xs : List A) (rest : List ℕ) → records width read (length xs) (bytes_of write xs ++ rest) ≡ xs
    records_read l h [] rest = refl
    records_read l h (x ∷ xs) rest =
        let others = bytes_of write xs ++ rest in
        rw (append_assoc (write x) (bytes_of write xs) rest, h x others, drop_at (write x) others width (l x), records_read l h xs rest)

    -- read, then written
    pub records_written : (n : ℕ) (bs : List ℕ) → ((i : ℕ) → i < n → write (read (drop (width * i) bs)) ≡ take width (drop (width * i) bs))
        → bytes_of write (records width read n bs) ≡ take (width * n) bs
    records_written zero bs h = rw (mul-zero width)
    records_written (suc n) bs h =
        let g = h 0 (omega arith) in
        let first : write (read bs) ≡ take width bs = rw (mul-zero width) at g in
        let rest = records_written n (drop width bs) (λ i l. rw (drop_record width read bs i) (h (suc i) (omega arith))) in
        rw (first, rest, mul-suc width n, add_comm (width * n) width, take-add width (width * n) bs)
