-- Laws of read and write requests.
use mathlib.Core.Path.{◌≡◌, refl, ap, ◌∙◌}
use mathlib.Core.List.{List, [], ◌∷◌}
use mathlib.Core.Bool.{false}
use Prim.Native.Nat.{ℕ, ◌+◌, ◌-◌, ◌≤◌, ◌<◌}
use native.Mathlib.Omega.{arith}
use Rattle.std.proofs.lemmas.Bool.Decides.{nat_tests}
use lib.Dec.{eqb}
use lib.ListN.{length, drop, length-take, length-drop}
use borrow.Author.Tests.{eqb-true}
use Rattle.dpa.specs.Frame.{pdata_max}
use Rattle.dpa.specs.Lists.{slice}
use Rattle.dpa.specs.Reply.{Harmless, Reply, reply, error_reply}
use Rattle.dpa.proofs.Bool.{by_cond}
use Rattle.memory.specs.declared.block.Memory.{Memory}
use Rattle.memory.specs.Block.{size_of, longest_of, address_bytes, read_command, write_command, block_fault, overwrite}
use Rattle.memory.specs.Request.{address_of, block_start, block_length, block_data, read_error, write_error, read_request, write_request, memory_request}
use Rattle.memory.proofs.Blocks.{BlockFits, fits_no_fault, longest_max}
use Rattle.memory.proofs.Overwrite.{overwrite_length}

module _ (m : Memory) (p : List ℕ) where
  -- an accepted read: PData has its length, and the block fits
  abbrev pub ReadFits : Type 0
  ReadFits = (length p ≡ address_bytes m + 1) × BlockFits (size_of m) (longest_of m) (block_start m p) (block_length m p)

  -- an accepted write
  abbrev pub WriteFits : Type 0
  WriteFits = (address_bytes m < length p) × BlockFits (size_of m) (longest_of m) (block_start m p) (length p - address_bytes m)

  -- a read without an error is accepted
  pub read_fits : read_error m p ≡ 0 → ReadFits
  unfolding read_error block_fault
  read_fits e =
      (grind (arith, nat_tests), record { length_max = grind (arith, nat_tests); start_inside = grind (arith, nat_tests); end_inside = grind (arith, nat_tests) })

  -- a write without an error is accepted
  pub write_fits : write_error m p ≡ 0 → WriteFits
  unfolding write_error block_fault
  write_fits e =
      (grind (arith, nat_tests), record { length_max = grind (arith, nat_tests); start_inside = grind (arith, nat_tests); end_inside = grind (arith, nat_tests) })

-- a read and a write have different PCMDs
pub commands_differ : (m : Memory) → eqb (write_command m) (read_command m) ≡ false
commands_differ Memory.Eeprom = refl
commands_differ Memory.Ram = refl
commands_differ Memory.External = refl

module _ (m : Memory) (p mem : List ℕ) where
  -- the reply to an accepted read
  pub read_accepted : ReadFits m p → memory_request m (read_command m) p mem ≡ reply mem 0 (slice mem (block_start m p) (block_length m p))
  unfolding memory_request read_request read_error
  read_accepted f = let z = fits_no_fault (size_of m) (longest_of m) (block_start m p) (block_length m p) 5 4 f.1 in grind (arith, nat_tests)

  -- the reply to an accepted write
  pub write_accepted : WriteFits m p → memory_request m (write_command m) p mem ≡ reply (overwrite mem (block_start m p) (block_data m p)) 0 []
  unfolding memory_request write_request write_error
  write_accepted f =
      let z = fits_no_fault (size_of m) (longest_of m) (block_start m p) (length p - address_bytes m) 5 4 f.1 in
      let d = commands_differ m in
      grind (arith, nat_tests)

  module _ (pcmd : ℕ) where
    -- a request is an accepted read, an accepted write or an error
    pub request_cases : (P : Reply (List ℕ) → Type 0)
        → (read_error m p ≡ 0 → P (reply mem 0 (slice mem (block_start m p) (block_length m p))))
        → (write_error m p ≡ 0 → P (reply (overwrite mem (block_start m p) (block_data m p)) 0 []))
        → ((e : ℕ) → P (error_reply mem e))
        → P (memory_request m pcmd p mem)
    unfolding memory_request read_request write_request
    request_cases P reads writes errors =
        by_cond P (eqb pcmd (read_command m)) _ _
        (λ q. by_cond P (eqb (read_error m p) 0) _ _ (λ z. reads (eqb-true _ _ z)) (λ z. errors _))
        (λ q. by_cond P (eqb pcmd (write_command m)) _ _
        (λ r. by_cond P (eqb (write_error m p) 0) _ _ (λ z. writes (eqb-true _ _ z)) (λ z. errors _))
        (λ r. errors 2))

    -- the PCMD of a write
    pub request_write : pcmd ≡ write_command m → memory_request m pcmd p mem ≡ write_request m p mem
    unfolding memory_request
    request_write e = let d = commands_differ m in grind (arith, nat_tests)

    -- any other request leaves the memory
    pub request_keeps : (pcmd ≡ write_command m → ⊥) → (memory_request m pcmd p mem).after ≡ mem
    unfolding memory_request read_request
    request_keeps n = grind (arith, nat_tests)

    -- a request with an error leaves the memory and returns no data
    pub request_harmless : Harmless mem (memory_request m pcmd p mem)
    request_harmless = request_cases (λ (x : Reply (List ℕ)). Harmless mem x) (λ z h. absurd (h refl)) (λ z h. absurd (h refl)) (λ e h. (refl, refl))

    -- a request keeps the memory's length
    pub request_length : length mem ≡ size_of m → length (memory_request m pcmd p mem).after ≡ length mem
    request_length size =
        request_cases (λ (x : Reply (List ℕ)). length x.after ≡ length mem)
        (λ z. refl)
        (λ z. overwrite_length mem (block_start m p) (block_data m p) (rw length-drop (omega (arith, (write_fits m p z).1.end_inside))))
        (λ e. refl)

    -- response data is no longer than the memory's longest block
    pub request_longest : length (memory_request m pcmd p mem).bytes ≤ longest_of m
    request_longest =
        request_cases (λ (x : Reply (List ℕ)). length x.bytes ≤ longest_of m)
        (λ z. rw length-take (omega (arith, (read_fits m p z).1.length_max)))
        (λ z. omega arith)
        (λ e. omega arith)

    -- so it fits in a response
    pub request_max : length (memory_request m pcmd p mem).bytes ≤ pdata_max
    request_max = omega (arith, request_longest, longest_max m)

-- an accepted write with a one-byte address
pub write_byte_address : (m : Memory) (mem : List ℕ) (a : ℕ) (d : List ℕ) → address_bytes m ≡ 1 → 0 < length d
    → BlockFits (size_of m) (longest_of m) a (length d)
    → memory_request m (write_command m) (a ∷ d) mem ≡ reply (overwrite mem a d) 0 []
unfolding address_of
write_byte_address m mem a d one some f =
    let s : block_start m (a ∷ d) ≡ a = ap (λ (w : ℕ). address_of w (a ∷ d)) one in
    let t : block_data m (a ∷ d) ≡ d = ap (λ (w : ℕ). drop w (a ∷ d)) one in
    let l : length (a ∷ d) - address_bytes m ≡ length d = omega arith in
    let k : address_bytes m < length (a ∷ d) = omega arith in
    write_accepted m (a ∷ d) mem (k, rw (s, l) f) ∙ rw (s, t)
