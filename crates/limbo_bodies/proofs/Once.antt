-- Parameters of which two have one name.
use Rattle.std.proofs.Common.{◌≡◌, ◌<◌, ℕ, zero, suc, List, [], ◌∷◌, ◌++◌, Option, None, Some, length, slice_get, refl, sym, ap, subst}
use Rattle.std.proofs.Common.{◌∙◌, append_assoc, arith}
use Rattle.std.proofs.lemmas.Option.{slice_get_within}
use Rattle.limbo_tree.specs.Decls.{Param}
use Rattle.limbo_types.specs.Types.{Ty}
use Rattle.limbo_declarations.specs.Names.{AreOnce, IsAt}
use Rattle.limbo_declarations.specs.Scopes.{present, param_names}
use Rattle.limbo_scope.specs.declared.meaning.Meaning.{Meaning}
use Rattle.limbo_scope.specs.declared.meaning.Meaning.TheVariants as meaning
use Rattle.limbo_scope.specs.Scopes.{Scope, entered, declared, declared_here}
use Rattle.limbo_scope.specs.Laws.{declared_all}
use Rattle.limbo_meanings.proofs.Finding.{found, all_push}
use Rattle.limbo_context.specs.Context.{Body}
use Rattle.limbo_bodies.specs.Bodies.{parameter_names, with_parameter, RepeatsName, this, further}

present_append : (ns ms : List (Option (List ℕ))) → present (ns ++ ms) ≡ present ns ++ present ms
present_append [] ms = refl
present_append (None ∷ ns) ms = present_append ns ms
present_append (Some n ∷ ns) ms = ap (λ zs. n ∷ zs) (present_append ns ms)

pub names_present : (ps : List Param) → present (parameter_names ps) ≡ param_names ps
names_present [] = refl
names_present (p ∷ ps) = present_append p.names (parameter_names ps) ∙ ap (λ zs. present p.names ++ zs) (names_present ps)

at_left : (xs ys : List (List ℕ)) (k : ℕ) (x : List ℕ) → IsAt xs k x → IsAt (xs ++ ys) k x
at_left [] ys k x h = absurd cc
at_left (z ∷ xs) ys zero x h = h
at_left (z ∷ xs) ys (suc k) x h = at_left xs ys k x h

at_middle : (xs ys : List (List ℕ)) (x : List ℕ) → IsAt (xs ++ (x ∷ ys)) (length xs) x
at_middle [] ys x = refl
at_middle (z ∷ xs) ys x = at_middle xs ys x

-- the names that were declared, with what they mean
abbrev pub names : List (List ℕ × Meaning) → List (List ℕ)
names [] = []
names (d ∷ ds) = d.0 ∷ names ds

name_there : (ds : List (List ℕ × Meaning)) (k : ℕ) (name : List ℕ) (x : Meaning) → slice_get ds k ≡ Some (name, x) → IsAt (names ds) k name
name_there [] k name x h = absurd cc
name_there (d ∷ ds) zero name x h = let e : d ≡ (name, x) = cc in ap (λ (z : List ℕ × Meaning). Some z.0) e
name_there (d ∷ ds) (suc k) name x h = name_there ds k name x h

names_push : (ds : List (List ℕ × Meaning)) (name : List ℕ) (x : Meaning) → names (ds ++ ((name, x) ∷ [])) ≡ names ds ++ (name ∷ [])
names_push [] name x = refl
names_push (d ∷ ds) name x = ap (λ zs. d.0 ∷ zs) (names_push ds name x)

-- a name that is declared already stands twice
pub repeated : (ns : List (Option (List ℕ))) (ts : List Ty) (b : Body) (ds : List (List ℕ × Meaning)) (outer : List Scope)
    → b.scopes ≡ declared_all ds (entered outer) → AreOnce (names ds ++ present ns) → RepeatsName ns ts b → ⊥
repeated _ _ _ ds outer are once (this name ns t ts b x h) =
    let f = found name ds outer x (sym (ap (declared_here name) are) ∙ h) in
    let a = f.1 in
    let i : IsAt (names ds) a.place name = name_there ds a.place name f.0 a.there in
    let same : a.place ≡ length (names ds) =
    once a.place (length (names ds)) name (at_left (names ds) (name ∷ present ns) a.place name i) (at_middle (names ds) (present ns) name)
    in
    let l : a.place < length (names ds) = slice_get_within (names ds) a.place name i in
    absurd (omega arith)
repeated _ _ _ ds outer are once (further None ns t ts b r) = repeated ns ts (with_parameter None t b) ds outer are once r
repeated _ _ _ ds outer are once (further (Some name) ns t ts b r) =
    let v : Meaning = meaning.Variable (length b.variables) in
    let next : declared name v b.scopes ≡ declared_all (ds ++ ((name, v) ∷ [])) (entered outer) =
    ap (declared name v) are ∙ sym (all_push ds ((name, v) ∷ []) (entered outer)) in
    let names_are : names ds ++ (name ∷ present ns) ≡ names (ds ++ ((name, v) ∷ [])) ++ present ns =
    sym (append_assoc (names ds) (name ∷ []) (present ns)) ∙ ap (λ zs. zs ++ present ns) (sym (names_push ds name v)) in
    repeated ns ts (with_parameter (Some name) t b) (ds ++ ((name, v) ∷ [])) outer next (subst AreOnce names_are once) r
