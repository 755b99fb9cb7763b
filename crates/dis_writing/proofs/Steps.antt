-- Writing parts one after the other.
use Rattle.std.proofs.Common.{◌≡◌, ℕ, suc, ◌+◌, ◌<◌, ◌≤◌, Bool, true, false, cond, List, [], ◌∷◌, ◌++◌, length, get_or, drop}
use Rattle.std.proofs.Common.{Result, Ok, Err, refl, sym, ap, ◌∙◌, arith}
use Rattle.std.proofs.lemmas.List.{at_drop_more, at_drop_all}
use Rattle.std.specs.List.{flat_map}
use Rattle.dis_file.specs.declared.types.TypeDesc.{TypeDesc}
use Rattle.dis_format.specs.declared.fault.FileFault.{FileFault}
use Rattle.dis_format.specs.declared.fault.FileFault.TheVariants.{NoMemory, BadOperand}
use Rattle.dis_format.specs.Parts.{Part, fits, written, types_parts, type_parts}
use Rattle.inf_text.specs.Steps.{◌>>=◌}
use Rattle.dis_format.specs.Writing.{put_all, FailsAt}

-- Steps group either way.
pub bind_assoc : {A B C : Type 0} (s : Result A ℕ) (f : A → Result B ℕ) (g : B → Result C ℕ)
    → ((s >>= f) >>= g) ≡ (s >>= λ x. f x >>= g)
bind_assoc (Ok x) f g = refl
bind_assoc (Err at) f g = refl

pub put_all-append : (out : List ℕ) (front back : List Part)
    → put_all out (front ++ back) ≡ (put_all out front >>= λ more. put_all more back)
put_all-append out [] back = refl
put_all-append out (part ∷ parts) back = at (put_all-append (out ++ written part) parts back) (fits part)
  where
    at : put_all (out ++ written part) (parts ++ back)
        ≡ (put_all (out ++ written part) parts >>= λ more. put_all more back)
        → (z : Bool) → (cond z (Ok (out ++ written part)) (Err (length out)) >>= λ more. put_all more (parts ++ back))
        ≡ ((cond z (Ok (out ++ written part)) (Err (length out)) >>= λ more. put_all more parts)
        >>= λ more. put_all more back)
    at up true = up
    at up false = refl

-- A fault of a step is one of the whole.
pub fails_on : {A B : Type 0} (e : FileFault) (s : Result A ℕ) (f : A → Result B ℕ) → FailsAt e s → FailsAt e (s >>= f)
fails_on NoMemory s f h = tt
fails_on {A} {B} (BadOperand at) s f h = ap (λ (r : Result A ℕ). r >>= f) h
fails_on _ s f h = absurd h

-- Behind parts that are written the others follow, and a fault of the first ones is one of all.
pub behind : (out mid : List ℕ) (front back : List Part) → put_all out front ≡ Ok mid
    → put_all out (front ++ back) ≡ put_all mid back
behind out mid front back h = put_all-append out front back ∙ ap (λ (r : Result (List ℕ) ℕ). r >>= λ more. put_all more back) h

pub fails_before : (e : FileFault) (out : List ℕ) (front back : List Part) → FailsAt e (put_all out front)
    → FailsAt e (put_all out (front ++ back))
fails_before e out front back h = rw put_all-append (fails_on e (put_all out front) (λ more. put_all more back) h)

pub fails_as : {A : Type 0} (e : FileFault) (s t : Result A ℕ) → s ≡ t → FailsAt e s → FailsAt e t
fails_as NoMemory s t same h = tt
fails_as (BadOperand at) s t same h = sym same ∙ h
fails_as _ s t same h = absurd h

-- ---- a loop over a list, each value being parts

pub goes_on : {A : Type 0} (parts : A → List Part) (xs : List A) (i : ℕ) (x : A) (out next : List ℕ)
    (total : Result (List ℕ) ℕ) → i < length xs → put_all out (parts (get_or xs i x)) ≡ Ok next
    → put_all out (flat_map parts (drop i xs)) ≡ total → put_all next (flat_map parts (drop (i + 1) xs)) ≡ total
goes_on parts xs i x out next total lt wrote so_far =
    sym (behind out next (parts (get_or xs i x)) (flat_map parts (drop (i + 1) xs)) wrote)
    ∙ ap (put_all out) (sym (at_drop_more (flat_map parts) xs i x lt)) ∙ so_far

pub ends : {A : Type 0} (parts : A → List Part) (e : FileFault) (xs : List A) (i : ℕ) (x : A) (out : List ℕ)
    (total : Result (List ℕ) ℕ) → i < length xs → FailsAt e (put_all out (parts (get_or xs i x)))
    → put_all out (flat_map parts (drop i xs)) ≡ total → FailsAt e total
ends parts e xs i x out total lt fails so_far =
    fails_as e (put_all out (parts (get_or xs i x) ++ flat_map parts (drop (i + 1) xs))) total
    (ap (put_all out) (sym (at_drop_more (flat_map parts) xs i x lt)) ∙ so_far)
    (fails_before e out (parts (get_or xs i x)) (flat_map parts (drop (i + 1) xs)) fails)

pub is_done : {A : Type 0} (parts : A → List Part) (xs : List A) (i : ℕ) (out : List ℕ) (total : Result (List ℕ) ℕ)
    → length xs ≤ i → put_all out (flat_map parts (drop i xs)) ≡ total → total ≡ Ok out
is_done parts xs i out total le so_far =
    sym so_far ∙ ap (put_all out) (at_drop_all (flat_map parts) xs i le)

-- the same, where the loop has the value by itself
pub item_goes_on : {A : Type 0} (parts : A → List Part) (xs : List A) (i : ℕ) (x : A) (out next : List ℕ)
    (total : Result (List ℕ) ℕ) → i < length xs → x ≡ get_or xs i x → put_all out (parts x) ≡ Ok next
    → put_all out (flat_map parts (drop i xs)) ≡ total → put_all next (flat_map parts (drop (i + 1) xs)) ≡ total
item_goes_on {A} parts xs i x out next total lt is wrote so_far =
    goes_on parts xs i x out next total lt (ap (λ (y : A). put_all out (parts y)) (sym is) ∙ wrote) so_far

pub item_ends : {A : Type 0} (parts : A → List Part) (e : FileFault) (xs : List A) (i : ℕ) (x : A) (out : List ℕ)
    (total : Result (List ℕ) ℕ) → i < length xs → x ≡ get_or xs i x → FailsAt e (put_all out (parts x))
    → put_all out (flat_map parts (drop i xs)) ≡ total → FailsAt e total
item_ends {A} parts e xs i x out total lt is fails so_far =
    ends parts e xs i x out total lt
    (fails_as e (put_all out (parts x)) (put_all out (parts (get_or xs i x))) (ap (λ (y : A). put_all out (parts y)) is)
    fails) so_far

-- the same for types, which are numbered

pub types_go_on : (ts : List TypeDesc) (i : ℕ) (t : TypeDesc) (out next : List ℕ) (total : Result (List ℕ) ℕ)
    → i < length ts → t ≡ get_or ts i t → put_all out (type_parts i t) ≡ Ok next
    → put_all out (types_parts i (drop i ts)) ≡ total → put_all next (types_parts (i + 1) (drop (i + 1) ts)) ≡ total
types_go_on ts i t out next total lt is wrote so_far =
    let here : i + 1 ≡ suc i = omega arith in
    let others = types_parts (suc i) (drop (i + 1) ts) in
    ap (λ (n : ℕ). put_all next (types_parts n (drop (i + 1) ts))) here
    ∙ sym (behind out next (type_parts i t) others wrote)
    ∙ ap (λ (u : TypeDesc). put_all out (type_parts i u ++ others)) is
    ∙ ap (put_all out) (sym (at_drop_more (types_parts i) ts i t lt)) ∙ so_far

pub types_end : (e : FileFault) (ts : List TypeDesc) (i : ℕ) (t : TypeDesc) (out : List ℕ) (total : Result (List ℕ) ℕ)
    → i < length ts → t ≡ get_or ts i t → FailsAt e (put_all out (type_parts i t))
    → put_all out (types_parts i (drop i ts)) ≡ total → FailsAt e total
types_end e ts i t out total lt is fails so_far =
    let others = types_parts (suc i) (drop (i + 1) ts) in
    fails_as e (put_all out (type_parts i t ++ others)) total
    (ap (λ (u : TypeDesc). put_all out (type_parts i u ++ others)) is
    ∙ ap (put_all out) (sym (at_drop_more (types_parts i) ts i t lt)) ∙ so_far)
    (fails_before e out (type_parts i t) others fails)

pub types_are_done : (ts : List TypeDesc) (i : ℕ) (out : List ℕ) (total : Result (List ℕ) ℕ) → length ts ≤ i
    → put_all out (types_parts i (drop i ts)) ≡ total → total ≡ Ok out
types_are_done ts i out total le so_far = sym so_far ∙ ap (put_all out) (at_drop_all (types_parts i) ts i le)

pub ruleset sections = (behind, fails_before)
