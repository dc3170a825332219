-- Document 01, "Scenes": steps joined into entries, for any limit of an entry's PData.
use Rattle.std.specs.Prelude.{Bool, false, cond, ◌&&◌, List, [], ◌∷◌, ◌++◌, ℕ, suc, ltb, leb, eqb, length}
use Rattle.book.specs.declared.step.Step.{Step}
use Rattle.step.specs.Step.{is_lamp}
use Rattle.entries.specs.Entry.{group_data}
use Rattle.entries.specs.Group.{group}

-- the last of the steps d ∷ ss
abbrev pub last_of : Step → List Step → Step
last_of d [] = d
last_of d (s ∷ ss) = last_of s ss

-- the kind is that of the step before, and the target is larger (lamps) or larger by 1 (memories)
unfoldable pub follows : Step → Step → Bool
follows p s =
    eqb s.kind p.kind
    && cond (is_lamp p.kind) (ltb p.target s.target) (eqb s.target (suc p.target))

-- s joins the entry of the steps before it if the PData stays within the limit
abbrev pub joins : ℕ → List Step → Step → Bool
joins limit [] s = false
joins limit (p ∷ ps) s = follows (last_of p ps) s && leb (length (group_data ((p ∷ ps) ++ (s ∷ [])))) limit

-- the entries of a scene, each as the group of its steps
abbrev pub entries_of : ℕ → List Step → List (List Step)
entries_of limit ss = group (joins limit) ss
