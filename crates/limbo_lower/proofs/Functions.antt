-- Functions in a row, one after the other.
use Rattle.std.proofs.Common.{◌≡◌, ℕ, ◌+◌, ◌<◌, ◌≤◌, List, [], ◌∷◌, ◌++◌, length, map, take, get_or, Some, inl, refl, sym, ap, ◌∙◌}
use Rattle.std.proofs.Common.{subst, arith}
use Rattle.std.specs.Prelude.{slice_get, option_map}
use Rattle.std.proofs.lemmas.List.{map-append, take_more}
use Rattle.std.proofs.lemmas.Option.{slice_get-map, slice_get_read}
use Rattle.limbo_layout.specs.Adts.{Def}
use Rattle.limbo_typed.specs.declared.module.TFn.{TFn}
use Rattle.limbo_typed.specs.Typed.{Module}
use Rattle.limbo_typed.specs.View.{view_function}
use Rattle.limbo_meaning.specs.Program.{routine_of, program_of}
use Rattle.core_code.specs.Code as code
use Rattle.core_code.specs.Statements.{function_of, code_of}
use Rattle.core_data.specs.declared.code.CoreFn.{CoreFn}
use Rattle.core_data.specs.View as core
use Rattle.core_frames.specs.Sizes.{frame_size, largest_frame, FrameTooLarge}
use Rattle.limbo_lower.specs.Frames.{FramesFit}

-- the function that is seen at a place
pub seen_there : (fs : List TFn) (i : ℕ) (f : TFn) → i < length fs → f ≡ get_or fs i f
    → slice_get (map view_function fs) i ≡ Some (view_function f)
seen_there fs i f lt is =
    slice_get-map view_function fs i ∙ ap (option_map view_function) (slice_get_read fs (length fs) i f refl lt is)

taken : (fs : List TFn) (i : ℕ) (f : TFn) → i < length fs → f ≡ get_or fs i f → take (i + 1) fs ≡ take i fs ++ f ∷ []
taken fs i f lt is = take_more fs i f lt ∙ ap (λ (x : TFn). take i fs ++ x ∷ []) (sym is)

pub made_more : (d : List Def) (fs : List TFn) (i : ℕ) (f : TFn) (done all : List CoreFn) (x : CoreFn) → i < length fs
    → f ≡ get_or fs i f → all ≡ done ++ x ∷ [] → core.view_function x ≡ function_of d (routine_of (view_function f))
    → map core.view_function done ≡ map (λ g. function_of d (routine_of (view_function g))) (take i fs)
    → map core.view_function all ≡ map (λ g. function_of d (routine_of (view_function g))) (take (i + 1) fs)
made_more d fs i f done all x lt is ea ex h =
    let coded = λ (g : TFn). function_of d (routine_of (view_function g)) in
    ap (map core.view_function) ea ∙ map-append core.view_function done (x ∷ []) ∙ ap (λ xs. xs ++ core.view_function x ∷ []) h
    ∙ ap (λ (y : code.Function). map coded (take i fs) ++ y ∷ []) ex
    ∙ sym (ap (map coded) (taken fs i f lt is) ∙ map-append coded (take i fs) (f ∷ []))

pub in_turn : (d : List Def) (fs : List TFn)
    → map (λ g. function_of d (routine_of (view_function g))) fs ≡ map (function_of d) (map routine_of (map view_function fs))
in_turn d [] = refl
in_turn d (f ∷ fs) = ap (λ xs. function_of d (routine_of (view_function f)) ∷ xs) (in_turn d fs)

-- the code of a module is that of its functions
pub all_made : (m : Module) (e : List Def) (fs : List TFn) (cs : List CoreFn) → e ≡ m.adts → map view_function fs ≡ m.functions
    → map core.view_function cs ≡ map (λ g. function_of e (routine_of (view_function g))) fs
    → (let p : code.Program = record { adts = m.adts; functions = map core.view_function cs } in p) ≡ code_of (program_of m)
all_made m e fs cs same these made =
    ap (λ (xs : List code.Function). let p : code.Program = record { adts = m.adts; functions = xs } in p)
    (made ∙ in_turn e fs ∙ ap (λ xs. map (function_of e) (map routine_of xs)) these
    ∙ ap (λ (d : List Def). map (function_of d) (map routine_of m.functions)) same)

no_larger : (n : ℕ) → (largest_frame < n → ⊥) → n ≤ largest_frame
no_larger n h = omega (arith, h)

-- no frame of a module is too large where that isn't refused
pub all_fit : (m : Module) (e : List Def) (fs : List TFn) → (FrameTooLarge m → ⊥) → e ≡ m.adts → map view_function fs ≡ m.functions
    → FramesFit e fs
all_fit m e fs h same these n f there =
    let fit : frame_size m.adts f ≤ largest_frame = no_larger (frame_size m.adts f) (λ large. h (inl (record {
      number = n;
      function = f;
      there = ap (λ xs. slice_get xs n) (sym these) ∙ there;
      large = large;
    }))) in
    subst (λ (d : List Def). frame_size d f ≤ largest_frame) (sym same) fit
