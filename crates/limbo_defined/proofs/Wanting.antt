-- The functions among rows, part by part.
use Rattle.std.proofs.Common.{◌≡◌, ◌<◌, ◌+◌, ℕ, List, [], ◌∷◌, ◌++◌, length, map, drop, get_or, Option, refl, sym, ap, ◌∙◌, append_assoc}
use Rattle.std.proofs.lemmas.List.{append-nil, drop_more}
use Rattle.limbo_tree.specs.declared.decl.Member as code_member
use Rattle.limbo_tree.specs.Decls.{FnType}
use Rattle.limbo_declarations.specs.Rows.{Row, Declared, Function, each}
use Rattle.limbo_includes.proofs.Lists.{contains_here, contains_there}
use Rattle.limbo_defined.specs.Places.{Place, place, own_names, places_in}
use Rattle.limbo_defined.specs.Wanted.{Wanted, of_name, of_function, functions_in}
use Rattle.limbo_defined.proofs.Holding.{IsPlain, ArePlain}

no_function : (p : List ℕ) (adt : Option (List ℕ)) (n : List ℕ) (d : Declared) → IsPlain d → of_function p adt n d ≡ []
no_function p adt n (Function f) h = absurd h
no_function p adt n _ h = refl

plain_functions : (adt : Option (List ℕ)) (rs : List Row) → ArePlain rs → functions_in adt rs ≡ []
plain_functions adt [] h = refl
plain_functions adt (r ∷ rs) h =
    ap (λ (z : List Wanted). z ++ functions_in adt rs) (no_function r.path adt r.name r.means (h r (contains_here r rs)))
    ∙ plain_functions adt rs (λ q c. h q (contains_there r q rs c))

pub each_functions : (p : List ℕ) (adt : Option (List ℕ)) (ns : List (List ℕ)) (f : FnType)
    → functions_in adt (each p ns (Function f)) ≡ map (of_name p adt) ns
each_functions p adt [] f = refl
each_functions p adt (n ∷ ns) f = ap (λ ws. of_name p adt n ∷ ws) (each_functions p adt ns f)

functions_append : (adt : Option (List ℕ)) (xs ys : List Row) → functions_in adt (xs ++ ys) ≡ functions_in adt xs ++ functions_in adt ys
functions_append adt [] ys = refl
functions_append adt (x ∷ xs) ys =
    ap (λ (z : List Wanted). of_function x.path adt x.name x.means ++ z) (functions_append adt xs ys)
    ∙ sym (append_assoc (of_function x.path adt x.name x.means) (functions_in adt xs) (functions_in adt ys))

-- nothing is added for what is no function
pub none_more : (ws : List Wanted) (adt : Option (List ℕ)) (rs : List Row) → functions_in adt rs ≡ [] → ws ≡ ws ++ functions_in adt rs
none_more ws adt rs e = sym (append-nil ws) ∙ ap (λ (z : List Wanted). ws ++ z) (sym e)

pub plain_more : (ws : List Wanted) (adt : Option (List ℕ)) (rs : List Row) → ArePlain rs → ws ≡ ws ++ functions_in adt rs
plain_more ws adt rs h = none_more ws adt rs (plain_functions adt rs h)

-- the functions of one member more
pub functions_step :
    (old new ws : List Wanted) (adt : Option (List ℕ)) (all one rest : List Row) → all ≡ one ++ rest → new ≡ old ++ functions_in adt one
    → old ++ functions_in adt all ≡ ws → new ++ functions_in adt rest ≡ ws
functions_step old new ws adt all one rest s n h =
    ap (λ (z : List Wanted). z ++ functions_in adt rest) n ∙ append_assoc old (functions_in adt one) (functions_in adt rest)
    ∙ ap (λ (z : List Wanted). old ++ z) (sym (functions_append adt one rest) ∙ ap (functions_in adt) (sym s)) ∙ h

pub places_step :
    (old new ws : List Place) (p : List ℕ) (adt : Option (List ℕ)) (k : ℕ) (ms : List code_member.Member) (m : code_member.Member)
    → k < length ms → m ≡ get_or ms k m
    → new ≡ old ++ map (place p adt) (own_names m) → old ++ places_in p adt (drop k ms) ≡ ws → new ++ places_in p adt (drop (k + 1) ms) ≡ ws
places_step old new ws p adt k ms m l e n h =
    let rest = places_in p adt (drop (k + 1) ms) in
    let s : places_in p adt (drop k ms) ≡ map (place p adt) (own_names m) ++ rest =
    ap (places_in p adt) (drop_more ms k m l) ∙ ap (λ (z : code_member.Member). map (place p adt) (own_names z) ++ rest) (sym e) in
    ap (λ (z : List Place). z ++ rest) n ∙ append_assoc old (map (place p adt) (own_names m)) rest
    ∙ ap (λ (z : List Place). old ++ z) (sym s) ∙ h
