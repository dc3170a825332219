-- Buffers at the limit: 4,096 bytes are enough, 4,095 are not.
use mathlib.Core.List.{[], ◌∷◌}
use mathlib.Core.Path.{◌≡◌, refl}
use Prim.Native.Nat.{ℕ}
use lib.ListN.{replicate}
use Rattle.dpa.specs.Settings.{address_ok}
use Rattle.book.specs.Book.{chained, book_ok, scene_of}
use Rattle.scene.specs.Call.{compile_scene, compile_to, compile_for}

-- the refusal for scene 0 of a book with one scene without steps, with a buffer of n bytes
abbrev refusal_with : ℕ → ℕ
refusal_with n = (compile_for (1 ∷ 4 ∷ 0 ∷ 0 ∷ []) 0 1 1 (replicate n 0)).refusal

pub room_4096 : refusal_with 4096 ≡ 0
unfolding address_ok chained book_ok scene_of compile_scene compile_to
room_4096 = refl

pub room_4095 : refusal_with 4095 ≡ 9
unfolding address_ok chained book_ok scene_of compile_scene compile_to
room_4095 = refl
