-- What is told, one part behind another.
use Rattle.std.proofs.Common.{◌≡◌, ℕ, ◌-◌, Bool, true, false, List, [], ◌∷◌, ◌++◌, length, take, drop, Option, Some, None, refl, sym, ap, ◌∙◌, arith, append_assoc, length-append, if◌then◌else◌}
use Rattle.std.specs.Prelude.{◌==◌}
use Rattle.std.proofs.lemmas.List.{take-append-drop, drop_at}
use Rattle.process_model.specs.Process.{Requested, Replied, Passed, Over, Released, Lost}
use Rattle.system_model.specs.Prints.{Request}
use Rattle.system_model.specs.Ending.{Ending, Ended, Broken, Faulted}
use Rattle.system_model.specs.Trace.{Trace}
use Rattle.sys_print.specs.declared.writing.Request as code_request
use Rattle.sys_print.specs.Printing.{view_request}
use Rattle.dis_counts.specs.Told as traces
use Rattle.dis_machine.specs.Journal.{Fault, fault_of, fault_in, or_else}
use Rattle.dis_machine.specs.Frames.{in_front, requests}
use Rattle.dis_machine.specs.Ends.{Breach, breach, breaches}
use Rattle.dis_machine.specs.Kept.{frames_on, EndsWith}

in_front_more : (link : ℕ) (m : Request) (xs ys : List (List ℕ)) → in_front link m (xs ++ ys) ≡ in_front link m xs ++ ys
in_front_more link m xs ys = go (m.link == link)
  where
    go : (b : Bool) → (if b then m.frame ∷ (xs ++ ys) else (xs ++ ys)) ≡ (if b then m.frame ∷ xs else xs) ++ ys
    go true = refl
    go false = refl

pub requests_more : (link : ℕ) (a b : Trace) → requests link (a ++ b) ≡ requests link a ++ requests link b
requests_more link [] b = refl
requests_more link (Requested i m ∷ a) b = ap (in_front link m) (requests_more link a b) ∙ in_front_more link m (requests link a) (requests link b)
requests_more link (Replied i r ∷ a) b = requests_more link a b
requests_more link (Passed c v i k j l ∷ a) b = requests_more link a b
requests_more link (Over i how ∷ a) b = requests_more link a b
requests_more link (Released i ns ∷ a) b = requests_more link a b
requests_more link (Lost l ∷ a) b = requests_more link a b

breach_more : (i : ℕ) (how : Ending) (xs ys : List Breach) → breach i how (xs ++ ys) ≡ breach i how xs ++ ys
breach_more i Ended xs ys = refl
breach_more i (Broken text) xs ys = refl
breach_more i (Faulted number pc) xs ys = refl

pub breaches_more : (a b : Trace) → breaches (a ++ b) ≡ breaches a ++ breaches b
breaches_more [] b = refl
breaches_more (Requested i m ∷ a) b = breaches_more a b
breaches_more (Replied i r ∷ a) b = breaches_more a b
breaches_more (Passed c v i k j l ∷ a) b = breaches_more a b
breaches_more (Over i how ∷ a) b = ap (breach i how) (breaches_more a b) ∙ breach_more i how (breaches a) (breaches b)
breaches_more (Released i ns ∷ a) b = breaches_more a b
breaches_more (Lost l ∷ a) b = breaches_more a b

or_else_more : (x y z : Option Fault) → or_else x (or_else y z) ≡ or_else (or_else x y) z
or_else_more (Some f) y z = refl
or_else_more None y z = refl

pub fault_more : (a b : Trace) → fault_in (a ++ b) ≡ or_else (fault_in a) (fault_in b)
fault_more [] b = refl
fault_more (Requested i m ∷ a) b = fault_more a b
fault_more (Replied i r ∷ a) b = fault_more a b
fault_more (Passed c v i k j l ∷ a) b = fault_more a b
fault_more (Over i how ∷ a) b = ap (or_else (fault_of how)) (fault_more a b) ∙ or_else_more (fault_of how) (fault_in a) (fault_in b)
fault_more (Released i ns ∷ a) b = fault_more a b
fault_more (Lost l ∷ a) b = fault_more a b

pub frames_more : (link : ℕ) (a b : List code_request.Request) → frames_on link (a ++ b) ≡ frames_on link a ++ frames_on link b
frames_more link [] b = refl
frames_more link (m ∷ a) b = ap (in_front link (view_request m)) (frames_more link a b) ∙ in_front_more link (view_request m) (frames_on link a) (frames_on link b)

-- ---- beside which blocks went

pub told_more : (a b : Trace) → traces.told (a ++ b) ≡ traces.told a ++ traces.told b
told_more [] b = refl
told_more (Requested i m ∷ a) b = ap (λ es. Requested i m ∷ es) (told_more a b)
told_more (Replied i r ∷ a) b = ap (λ es. Replied i r ∷ es) (told_more a b)
told_more (Passed c v i k j l ∷ a) b = ap (λ es. Passed c v i k j l ∷ es) (told_more a b)
told_more (Over i how ∷ a) b = ap (λ es. Over i how ∷ es) (told_more a b)
told_more (Released i ns ∷ a) b = told_more a b
told_more (Lost l ∷ a) b = ap (λ es. Lost l ∷ es) (told_more a b)

pub requests_told : (link : ℕ) (a : Trace) → requests link (traces.told a) ≡ requests link a
requests_told link [] = refl
requests_told link (Requested i m ∷ a) = ap (in_front link m) (requests_told link a)
requests_told link (Replied i r ∷ a) = requests_told link a
requests_told link (Passed c v i k j l ∷ a) = requests_told link a
requests_told link (Over i how ∷ a) = requests_told link a
requests_told link (Released i ns ∷ a) = requests_told link a
requests_told link (Lost l ∷ a) = requests_told link a

pub breaches_told : (a : Trace) → breaches (traces.told a) ≡ breaches a
breaches_told [] = refl
breaches_told (Requested i m ∷ a) = breaches_told a
breaches_told (Replied i r ∷ a) = breaches_told a
breaches_told (Passed c v i k j l ∷ a) = breaches_told a
breaches_told (Over i how ∷ a) = ap (breach i how) (breaches_told a)
breaches_told (Released i ns ∷ a) = breaches_told a
breaches_told (Lost l ∷ a) = breaches_told a

pub fault_told : (a : Trace) → fault_in (traces.told a) ≡ fault_in a
fault_told [] = refl
fault_told (Requested i m ∷ a) = fault_told a
fault_told (Replied i r ∷ a) = fault_told a
fault_told (Passed c v i k j l ∷ a) = fault_told a
fault_told (Over i how ∷ a) = ap (or_else (fault_of how)) (fault_told a)
fault_told (Released i ns ∷ a) = fault_told a
fault_told (Lost l ∷ a) = fault_told a

-- ---- ends

front_of : (xs ys : List (List ℕ)) → EndsWith xs ys → take (length ys - length xs) ys ++ xs ≡ ys
front_of xs ys e = ap (λ zs. take (length ys - length xs) ys ++ zs) (sym e) ∙ take-append-drop (length ys - length xs) ys

ends_behind : (front xs ys : List (List ℕ)) → front ++ xs ≡ ys → EndsWith xs ys
ends_behind front xs ys e =
    let l = ap length (sym e) ∙ length-append front xs in
    ap (drop (length ys - length xs)) (sym e) ∙ drop_at front xs (length ys - length xs) (omega (arith, l))

-- More at the end of both.
pub ends_more : (xs ys more : List (List ℕ)) → EndsWith xs ys → EndsWith (xs ++ more) (ys ++ more)
ends_more xs ys more e =
    let front = take (length ys - length xs) ys in
    ends_behind front (xs ++ more) (ys ++ more) (sym (append_assoc front xs more) ∙ ap (λ zs. zs ++ more) (front_of xs ys e))

-- The first goes.
pub ends_later : (x : List ℕ) (xs ys : List (List ℕ)) → EndsWith (x ∷ xs) ys → EndsWith xs ys
ends_later x xs ys e =
    let front = take (length ys - length (x ∷ xs)) ys in
    ends_behind (front ++ x ∷ []) xs ys (append_assoc front (x ∷ []) xs ∙ front_of (x ∷ xs) ys e)
