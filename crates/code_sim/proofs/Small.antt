-- The frames and the variables of a module's code are no larger than they may be, where those of the module are.
use Rattle.std.proofs.Common.{◌≡◌, ℕ, zero, suc, ◌+◌, ◌*◌, ◌<◌, ◌≤◌, true, inl, inr, List, [], ◌∷◌, map, Option, Some, None, refl, sym, ap, ◌∙◌, subst, arith}
use Rattle.std.specs.Prelude.{◌⊎◌, slice_get}
use Rattle.std.specs.Option.{option_map}
use Rattle.std.proofs.lemmas.Option.{slice_get-map}
use Rattle.limbo_typed.specs.Typed as typed
use Rattle.limbo_typed.specs.Typed.{Module}
use Rattle.limbo_values.specs.declared.number.Kind.{Kind}
use Rattle.limbo_values.specs.declared.number.Kind.TheVariants.{Byte, Int, Big}
use Rattle.system_model.specs.Values.{Value, Num}
use Rattle.typed_meaning.specs.Program.{globals_of}
use Rattle.slot_code.specs.Code.{Function}
use Rattle.slot_code.specs.Layout.{place_for, size_of, end_of}
use Rattle.typed_lower.specs.Sizes.{frame_size, globals_size, largest_frame, FrameTooLarge}
use Rattle.typed_lower.specs.Statements.{number_kind, function_code, functions_code, global_code, globals_code, module_code}
use Rattle.typed_part.specs.Part.{is_part}
use Rattle.dis_objects.specs.Words.{frame_limit, globals_limit, AllSmallFrames, AllSmall}
use Rattle.dis_objects.specs.Frames.{room_of}
use Rattle.dis_objects.specs.Code.{global_bytes, globals_bytes}
use Rattle.part_code.proofs.Rooms.{frames_fit}

-- ---- the module's variables

one_least : (k : Option Kind) (from : ℕ) → global_bytes k + 4 * from ≤ 4 * (place_for k from + size_of k)
one_least None from = omega arith
one_least (Some Byte) from = omega arith
one_least (Some Int) from = omega arith
one_least (Some Big) from = omega arith

code_kind : (v : typed.Var) (w : Value) → (global_code v w).kind ≡ number_kind v.ty
code_kind v (Num z) = refl

none_least : (ks : List (Option Kind)) (from : ℕ) → from ≤ end_of from ks
none_least [] from = omega arith
none_least (k ∷ ks) from = let a = one_least k from in let b = none_least ks (place_for k from + size_of k) in omega (arith, a, b)

abbrev kinds : List typed.Var → List (Option Kind)
kinds vs = map (λ v. number_kind v.ty) vs

-- In the module's data a variable takes four times the bytes that are counted, at most.
all_least : (vs : List typed.Var) (ws : List Value) (from : ℕ) → globals_bytes (globals_code vs ws) + 4 * from ≤ 4 * end_of from (kinds vs)
all_least [] ws from = omega arith
all_least (v ∷ vs) [] from = let a = none_least (kinds (v ∷ vs)) from in omega (arith, a)
all_least (v ∷ vs) (w ∷ ws) from =
    let k = number_kind v.ty in
    let e : global_bytes (global_code v w).kind ≡ global_bytes k = ap global_bytes (code_kind v w) in
    let a = one_least k from in
    let b = all_least vs ws (place_for k from + size_of k) in omega (arith, e, a, b)

-- ---- the frames

-- Which of two is the larger.
pub at_most : (a b : ℕ) → (a ≤ b) ⊎ (b < a)
at_most zero b = inl (omega arith)
at_most (suc a) zero = inr (omega arith)
at_most (suc a) (suc b) = go (at_most a b)
  where
    go : (a ≤ b) ⊎ (b < a) → (suc a ≤ suc b) ⊎ (suc b < suc a)
    go (inl l) = inl (omega (arith, l))
    go (inr l) = inr (omega (arith, l))

pub record Lowered (m : Module) (n : ℕ) (g : Function) : Type 0 where
  pub function : typed.Function
  pub there : slice_get m.functions n ≡ Some function
  pub same : function_code function ≡ g

pub lowered : (m : Module) (n : ℕ) (g : Function) → slice_get (functions_code m) n ≡ Some g → Lowered m n g
lowered m n g e = go (slice_get m.functions n) refl (sym (slice_get-map function_code m.functions n) ∙ e)
  where
    go : (o : Option typed.Function) → slice_get m.functions n ≡ o → option_map function_code (slice_get m.functions n) ≡ Some g → Lowered m n g
    go None q h = let no : None ≡ Some g = sym (ap (option_map function_code) q) ∙ h in absurd cc
    go (Some f) q h =
        let is : Some (function_code f) ≡ Some g = sym (ap (option_map function_code) q) ∙ h in record { function = f; there = q; same = cc }

module _ (m : Module) (part : is_part m ≡ true) (fits : FrameTooLarge m → ⊥) where
  frames_small : AllSmallFrames (functions_code m)
  frames_small n g e =
      let l = lowered m n g e in
      let room = frames_fit m part n l.function l.there in
      subst (λ (h : Function). (room_of (functions_code m) h).size ≤ frame_limit) l.same (by l.function l.there room (at_most (frame_size l.function) largest_frame))
    where
      by : (f : typed.Function) → slice_get m.functions n ≡ Some f → (room_of (functions_code m) (function_code f)).size ≤ frame_size f
          → (frame_size f ≤ largest_frame) ⊎ (largest_frame < frame_size f) → (room_of (functions_code m) (function_code f)).size ≤ frame_limit
      by f there room (inl l) = omega (arith, room, l)
      by f there room (inr large) = absurd (fits (inl (record { number = n; function = f; there = there; large = large })))

  globals_small : globals_bytes (module_code m).globals ≤ globals_limit
  globals_small = go (at_most (globals_size m) largest_frame)
    where
      go : (globals_size m ≤ largest_frame) ⊎ (largest_frame < globals_size m) → globals_bytes (module_code m).globals ≤ globals_limit
      go (inl l) = let a = all_least m.globals (globals_of m) 0 in omega (arith, a, l)
      go (inr large) = absurd (fits (inr large))

  pub all_small : AllSmall (module_code m)
  all_small = record { frames = frames_small; globals = globals_small }
