-- What traces tell, piece by piece.
use Rattle.std.proofs.Common.{◌≡◌, ℕ, Bool, true, false, List, [], ◌∷◌, ◌++◌, refl, ap, ◌∙◌, if◌then◌else◌}
use Rattle.process_model.specs.Process.{Branch, Entry, Requested, Replied, Passed, Over, Released, Lost, released}
use Rattle.process_model.specs.Process as process
use Rattle.system_model.specs.Values.{Value}
use Rattle.system_model.specs.Ending.{Ended, Broken, Faulted}
use Rattle.dis_counts.specs.Told.{Trace, told}
use Rattle.dis_agreement.specs.Runs.{NoFault}

pub told_on : (es fs : Trace) → told (es ++ fs) ≡ told es ++ told fs
told_on [] fs = refl
told_on (Requested i m ∷ es) fs = ap (λ l. Requested i m ∷ l) (told_on es fs)
told_on (Replied i a ∷ es) fs = ap (λ l. Replied i a ∷ l) (told_on es fs)
told_on (Passed c v s x r o ∷ es) fs = ap (λ l. Passed c v s x r o ∷ l) (told_on es fs)
told_on (Over i how ∷ es) fs = ap (λ l. Over i how ∷ l) (told_on es fs)
told_on (Released i ns ∷ es) fs = told_on es fs
told_on (Lost l ∷ es) fs = ap (λ k. Lost l ∷ k) (told_on es fs)

-- That blocks went isn't among it.
told_released : (i : ℕ) (ns : List ℕ) → told (released i ns) ≡ []
told_released i [] = refl
told_released i (n ∷ ns) = refl

nothing_more : (es : Trace) → es ++ [] ≡ es
nothing_more [] = refl
nothing_more (e ∷ es) = ap (λ l. e ∷ l) (nothing_more es)

pub told_cut : (es fs : Trace) (i : ℕ) (ns : List ℕ) → told fs ≡ es → told (fs ++ released i ns) ≡ es ++ []
told_cut es fs i ns e =
    told_on fs (released i ns) ∙ (ap (λ l. told fs ++ l) (told_released i ns) ∙ ap (λ l. l ++ []) e)

-- What passed was told as it is.
pub told_passed : (i k : ℕ) (a : Branch Value) (j l : ℕ) (b : Branch Value)
    → told (process.told i k a j l b ∷ []) ≡ process.told i k a j l b ∷ []
told_passed i k a j l b = go a.sends
  where
    go : (c : Bool) → told ((if c then Passed a.channel a.value i k j l else Passed a.channel b.value j l i k) ∷ [])
        ≡ (if c then Passed a.channel a.value i k j l else Passed a.channel b.value j l i k) ∷ []
    go true = refl
    go false = refl

-- Where no process faulted, none did before, nor behind.
pub no_fault_before : (es fs : Trace) → NoFault (es ++ fs) → NoFault es
no_fault_before [] fs n = tt
no_fault_before (Requested i m ∷ es) fs n = no_fault_before es fs n
no_fault_before (Replied i a ∷ es) fs n = no_fault_before es fs n
no_fault_before (Passed c v s x r o ∷ es) fs n = no_fault_before es fs n
no_fault_before (Over i Ended ∷ es) fs n = no_fault_before es fs n
no_fault_before (Over i (Broken text) ∷ es) fs n = no_fault_before es fs n
no_fault_before (Over i (Faulted number pc) ∷ es) fs n = n
no_fault_before (Released i ns ∷ es) fs n = no_fault_before es fs n
no_fault_before (Lost l ∷ es) fs n = no_fault_before es fs n

pub no_fault_behind : (es fs : Trace) → NoFault (es ++ fs) → NoFault fs
no_fault_behind [] fs n = n
no_fault_behind (Requested i m ∷ es) fs n = no_fault_behind es fs n
no_fault_behind (Replied i a ∷ es) fs n = no_fault_behind es fs n
no_fault_behind (Passed c v s x r o ∷ es) fs n = no_fault_behind es fs n
no_fault_behind (Over i Ended ∷ es) fs n = no_fault_behind es fs n
no_fault_behind (Over i (Broken text) ∷ es) fs n = no_fault_behind es fs n
no_fault_behind (Over i (Faulted number pc) ∷ es) fs n = absurd n
no_fault_behind (Released i ns ∷ es) fs n = no_fault_behind es fs n
no_fault_behind (Lost l ∷ es) fs n = no_fault_behind es fs n

pub no_fault_on : (es fs : Trace) → NoFault es → NoFault fs → NoFault (es ++ fs)
no_fault_on [] fs n m = m
no_fault_on (Requested i r ∷ es) fs n m = no_fault_on es fs n m
no_fault_on (Replied i a ∷ es) fs n m = no_fault_on es fs n m
no_fault_on (Passed c v s x r o ∷ es) fs n m = no_fault_on es fs n m
no_fault_on (Over i Ended ∷ es) fs n m = no_fault_on es fs n m
no_fault_on (Over i (Broken text) ∷ es) fs n m = no_fault_on es fs n m
no_fault_on (Over i (Faulted number pc) ∷ es) fs n m = n
no_fault_on (Released i ns ∷ es) fs n m = no_fault_on es fs n m
no_fault_on (Lost l ∷ es) fs n m = no_fault_on es fs n m

pub passed_right : (i k : ℕ) (a : Branch Value) (j l : ℕ) (b : Branch Value) → NoFault (process.told i k a j l b ∷ [])
passed_right i k a j l b = go a.sends
  where
    go : (c : Bool) → NoFault ((if c then Passed a.channel a.value i k j l else Passed a.channel b.value j l i k) ∷ [])
    go true = tt
    go false = tt
