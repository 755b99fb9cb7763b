-- Operands that come to their parts, one by one.
use Rattle.std.proofs.Common.{◌≡◌, ℕ, suc, ◌+◌, List, [], ◌∷◌, ◌++◌, Option, refl, sym, ap, ◌∙◌, add-one, append_assoc}
use Rattle.std.proofs.lemmas.List.{append-nil}
use Rattle.limbo_types.specs.Types.{Ty}
use Rattle.limbo_layout.specs.Adts.{Def}
use Rattle.core_code.specs.Code.{Instr, Place}
use Rattle.core_code.specs.Terms.{placed}

pub placed_on : (defs : List Def) (t : Ty) (v : Option ℕ) (into n m k s : ℕ) (ks more ss others : List ℕ) (c : List Instr)
    (cs : List (List Instr)) (code first next : List Instr) → ks ≡ k ∷ more → ss ≡ s ∷ others → m ≡ n + 1 → first ≡ code ++ c
    → next ≡ first ++ Place t v n k into s ∷ []
    → next ++ placed defs t v into m more cs others ≡ code ++ placed defs t v into n ks (c ∷ cs) ss
placed_on defs t v into n m k s ks more ss others c cs code first next ek es em ef en =
    let step = Place t v n k into s in
    rw (en, ef, ek, es, em, add-one n) (append_assoc (code ++ c) (step ∷ []) (placed defs t v into (suc n) more cs others)
    ∙ append_assoc code c (step ∷ placed defs t v into (suc n) more cs others))

pub placed_no_code : (defs : List Def) (t : Ty) (v : Option ℕ) (into n : ℕ) (ks ss : List ℕ) → placed defs t v into n ks [] ss ≡ []
placed_no_code defs t v into n [] ss = refl
placed_no_code defs t v into n (k ∷ ks) ss = refl

pub placed_no_slots : (defs : List Def) (t : Ty) (v : Option ℕ) (into n : ℕ) (ks : List ℕ) (cs : List (List Instr))
    → placed defs t v into n ks cs [] ≡ []
placed_no_slots defs t v into n [] cs = refl
placed_no_slots defs t v into n (k ∷ ks) [] = refl
placed_no_slots defs t v into n (k ∷ ks) (c ∷ cs) = refl

pub none_left : (code left all : List Instr) → left ≡ [] → code ++ left ≡ all → code ≡ all
none_left code left all none told = sym (append-nil code) ∙ ap (λ is. code ++ is) (sym none) ∙ told
