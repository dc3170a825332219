-- `Bonds::count`: the bits of the first bytes, at most eight in each.
use mathlib.Core.Path.{◌≡◌, sym, ap₂, ◌∙◌}
use Prim.Native.Nat.{ℕ, ◌+◌, ◌≤◌, ◌<◌}
use native.Mathlib.Omega.{arith}
use lib.ListN.{length, get_or, take}
use lib.Seq.{length-take-le, get_or-take}
use lib.Count.{ones, ones-le}
use Rattle.bonds.proofs.Bonds.{bonds_facts, count_start, count_next, count_front, count_sound}
use Rattle.bonds.proofs.addresses.Bonds.count.Goals as goal

pub loop-byte-init : goal.loop-byte-init
loop-byte-init c = sym (count_start c.args.self.bytes)

pub loop-byte-preserved : goal.loop-byte-preserved
loop-byte-preserved c =
    let b = c.args.self.bytes in
    let f = bonds_facts b c.args.self.sound in
    let i = c.loop-byte.byte-index in
    let t : length (take 30 b) ≡ 30 = length-take-le 30 b (omega (arith, f.size)) in
    let h : i < 30 = omega arith in
    ap₂ (λ (n x : ℕ). n + ones x) c.loop-byte.invariant (get_or-take 30 b i 0 h) ∙ sym (count_next b i (omega (arith, f.size)))

pub overflow_add-count : goal.overflow_add-count
overflow_add-count c =
    let b = c.args.self.bytes in
    let f = bonds_facts b c.args.self.sound in
    let i = c.loop-byte.byte-index in
    let front = count_front b f.bytes i in
    let t : length (take 30 b) ≡ 30 = length-take-le 30 b (omega (arith, f.size)) in
    let h : i < 30 = omega arith in
    let n : ones (get_or (take 30 b) i 0) ≤ 8 = rw (get_or-take 30 b i 0 h) (ones-le 8 (get_or b i 0) (f.bytes i)) in
    record { fits = omega (arith, front, n) }

pub overflow_cast-result : goal.overflow_cast-result
overflow_cast-result c =
    let b = c.args.self.bytes in
    let f = bonds_facts b c.args.self.sound in
    let i = c.loop-byte.byte-index in
    let front = count_front b f.bytes i in
    let t : length (take 30 b) ≡ 30 = length-take-le 30 b (omega (arith, f.size)) in
    record { fits = omega (arith, front) }

pub returns : goal.returns
returns c =
    let b = c.args.self.bytes in
    let t : length (take 30 b) ≡ 30 = length-take-le 30 b (omega (arith, (bonds_facts b c.args.self.sound).size)) in
    let i = c.loop-byte.byte-index in
    c.loop-byte.invariant ∙ sym (count_sound b c.args.self.sound i (omega arith) (omega arith))
