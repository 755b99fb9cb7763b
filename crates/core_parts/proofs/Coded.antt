-- Code in a row.
use Rattle.std.proofs.Common.{◌≡◌, suc, List, [], ◌∷◌, ◌++◌, length, Vec, Global, refl, sym, ap, ◌∙◌, append_assoc}
use Rattle.std.proofs.lemmas.List.{append-nil, map-append}
use Rattle.core_data.specs.declared.code.Inst.{Inst}
use Rattle.core_data.specs.View.{view_inst}
use Rattle.core_code.specs.Code.{Instr}
use Rattle.core_parts.specs.Lowered.{code_of, codes_of, joined}

pub code_of_none : code_of [] ≡ []
unfolding code_of
code_of_none = refl

pub code_of_more : (i : Inst) (is : List Inst) → code_of (i ∷ is) ≡ view_inst i ∷ code_of is
unfolding code_of
code_of_more i is = refl

pub code_of_append : (is js : List Inst) → code_of (is ++ js) ≡ code_of is ++ code_of js
unfolding code_of
code_of_append [] js = refl
code_of_append (i ∷ is) js = ap (λ ks. view_inst i ∷ ks) (code_of_append is js)

pub code_of_push : (is : List Inst) (i : Inst) → code_of (is ++ i ∷ []) ≡ code_of is ++ view_inst i ∷ []
unfolding code_of
code_of_push is i = code_of_append is (i ∷ [])

pub code_of_length : (is : List Inst) → length (code_of is) ≡ length is
unfolding code_of
code_of_length [] = refl
code_of_length (i ∷ is) = ap (λ n. suc n) (code_of_length is)

-- ---- the code of trees in a row

pub codes_of_none : codes_of [] ≡ []
unfolding codes_of
codes_of_none = refl

pub codes_of_more : (c : Vec Inst Global) (cs : List (Vec Inst Global)) → codes_of (c ∷ cs) ≡ code_of c.items ∷ codes_of cs
unfolding codes_of
codes_of_more c cs = refl

pub codes_of_push : (cs : List (Vec Inst Global)) (c : Vec Inst Global) → codes_of (cs ++ c ∷ []) ≡ codes_of cs ++ code_of c.items ∷ []
unfolding codes_of
codes_of_push cs c = map-append (λ (x : Vec Inst Global). code_of x.items) cs (c ∷ [])

pub joined_push : (cs : List (List Instr)) (c : List Instr) → joined (cs ++ c ∷ []) ≡ joined cs ++ c
joined_push [] c = append-nil c
joined_push (d ∷ ds) c = ap (λ is. d ++ is) (joined_push ds c) ∙ sym (append_assoc d (joined ds) c)

pub joined_on : (cs : List (List Instr)) (c code next : List Instr) → next ≡ code ++ c → next ++ joined cs ≡ code ++ joined (c ∷ cs)
joined_on cs c code next e = rw e (append_assoc code c (joined cs))
