-- Values of numbers, and references, take as many bytes by both definitions, and so do the nodes that have them.
use Rattle.std.proofs.Common.{◌≡◌, ℕ, zero, suc, ◌+◌, ◌*◌, Bool, true, false, ◌&&◌, ◌⊎◌, inl, inr, List, [], ◌∷◌, map, length, max}
use Rattle.std.proofs.Common.{Option, None, Some, refl, sym, ap, ◌∙◌, subst, arith}
use Rattle.std.specs.Prelude.{slice_get, slice_index_or, not}
use Rattle.std.proofs.lemmas.Bool.{false≢true}
use Rattle.std.proofs.lemmas.Option.{none-some, same_Some}
use Rattle.limbo_values.specs.declared.number.Kind.{Kind}
use Rattle.limbo_values.specs.declared.number.Kind.TheVariants as kind
use Rattle.limbo_types.specs.Types as ty
use Rattle.limbo_types.specs.Types.{Ty, Byte, Int, Big, Nothing}
use Rattle.limbo_types.specs.Same.{same}
use Rattle.limbo_types.proofs.Same.{only}
use Rattle.limbo_layout.specs.Adts.{Def}
use Rattle.limbo_layout.specs.Layout.{Room, nothing, all_behind}
use Rattle.limbo_layout.specs.Laying.{rooms_of}
use Rattle.limbo_typed.specs.Fitting.{Stands}
use Rattle.limbo_typed.specs.Typed as typed
use Rattle.limbo_typed.specs.Typed.{Of, At, Function, Module}
use Rattle.limbo_typed.specs.Sound as sound
use Rattle.limbo_typed.specs.Sound.{IsSound, type_of, types_of, type_at, Each}
use Rattle.slot_code.specs.Layout.{end_of}
use Rattle.typed_lower.specs.Kinds.{kind_given}
use Rattle.typed_lower.specs.Statements.{number_kind}
use Rattle.typed_lower.specs.Sizes as numbers
use Rattle.typed_part.specs.Part as part
use Rattle.typed_part.specs.Part.{Inside}
use Rattle.typed_part.proofs.Tests.{left, right, one_holds, all_at}
use Rattle.core_code.specs.Rooms.{rooms_in}
use Rattle.core_frames.specs.Sizes as values
use Rattle.core_frames.specs.Sizes.{types_in}
use Rattle.frames_agree.specs.Agree.{FramesAgree}

-- ---- types

-- What has a number is of one of three types.
is_number_of_one : (t u : Ty) → part.are_alike t u ≡ true → part.is_number t ≡ true
is_number_of_one Byte u h = refl
is_number_of_one Int u h = refl
is_number_of_one Big u h = refl
is_number_of_one _ u h = absurd (false≢true h)

is_number_of : (k : Kind) (t : Ty) → part.is_of k t ≡ true → part.is_number t ≡ true
is_number_of k Byte h = refl
is_number_of k Int h = refl
is_number_of k Big h = refl
is_number_of k _ h = absurd (false≢true h)

is_number_of_other : (t u : Ty) → part.are_alike t u ≡ true → part.is_number u ≡ true
is_number_of_other Byte u h = is_number_of kind.Byte u h
is_number_of_other Int u h = is_number_of kind.Int u h
is_number_of_other Big u h = is_number_of kind.Big u h
is_number_of_other _ u h = absurd (false≢true h)

third_is_number : (a b t : Ty) → part.are_of (kind.Int ∷ kind.Int ∷ kind.Int ∷ []) (a ∷ b ∷ t ∷ []) ≡ true → part.is_number t ≡ true
third_is_number a b t h =
    is_number_of kind.Int t (left _ true (right (part.is_of kind.Int b) _ (right (part.is_of kind.Int a) _ h)))

sums : {a b c d : ℕ} → a ≡ c → b ≡ d → a + b ≡ c + d
sums {b = b} {c = c} e f = ap (λ n. n + b) e ∙ ap (λ n. c + n) f

maxes : {a b c d : ℕ} → a ≡ c → b ≡ d → max a b ≡ max c d
maxes {b = b} {c = c} e f = ap (λ n. max n b) e ∙ ap (λ n. max c n) f

-- an assignment and a place for each of so many variables, in front of a value
declared_sum : (assignment variables value count number : ℕ) → assignment ≡ 24 → variables ≡ 24 * count → value ≡ number
    → assignment + (variables + value) ≡ 24 * suc count + number
declared_sum a v s n o e f g = omega arith

one_more : (a v n : ℕ) → a ≡ 24 → v ≡ 24 * n → a + v ≡ 24 * suc n
one_more a v n e f = omega arith

alone : (a b : ℕ) → a ≡ 24 → b ≡ 24 → a ≡ b + 0
alone a b e f = omega arith

both : (a b : Bool) → a ≡ true → b ≡ true → (a && b) ≡ true
both true b h k = k
both false b h k = absurd (false≢true h)

kinds_in : (vs : List typed.Var) → map number_kind (types_in vs) ≡ map (λ (v : typed.Var). number_kind v.ty) vs
kinds_in [] = refl
kinds_in (v ∷ vs) = ap (λ (ks : List (Option Kind)). number_kind v.ty ∷ ks) (kinds_in vs)

module _ (defs : List Def) where
  -- A node of this type takes so much by both.
  record Takes (t : Ty) (n : ℕ) : Type 0 where
    by_values : values.node_size defs t ≡ n
    by_numbers : numbers.node_size t ≡ n

  of_number : (t : Ty) → part.is_number t ≡ true → Takes t 24
  of_number Byte h = record { by_values = refl; by_numbers = refl }
  of_number Int h = record { by_values = refl; by_numbers = refl }
  of_number Big h = record { by_values = refl; by_numbers = refl }
  of_number _ h = absurd (false≢true h)

  of_word : (t : Ty) → part.is_word t ≡ true → Takes t 24
  of_word Byte h = record { by_values = refl; by_numbers = refl }
  of_word Int h = record { by_values = refl; by_numbers = refl }
  of_word Big h = record { by_values = refl; by_numbers = refl }
  of_word Nothing h = absurd (false≢true h)
  of_word ty.Nil h = absurd (false≢true h)
  of_word (ty.Tuple ts) h = absurd (false≢true h)
  of_word (ty.Adt n) h = absurd (false≢true h)
  of_word _ h = record { by_values = refl; by_numbers = refl }

  same_node : {n : ℕ} (t : Ty) → Takes t n → values.node_size defs t ≡ numbers.node_size t
  same_node t k = k.by_values ∙ sym k.by_numbers

  -- of an answer
  nothing_node : (t u : Ty) → (same t Nothing && same u Nothing) ≡ true → values.node_size defs t ≡ numbers.node_size t
  nothing_node t u h = subst (λ s. values.node_size defs s ≡ numbers.node_size s) (sym (only t Nothing (left _ _ h))) refl

  answer_node : (t u : Ty) → part.answers_alike t u ≡ true → values.node_size defs t ≡ numbers.node_size t
  answer_node t u h = go (one_holds (part.are_alike t u) (same t Nothing && same u Nothing) h)
    where
      go : (part.are_alike t u ≡ true) ⊎ ((same t Nothing && same u Nothing) ≡ true) → values.node_size defs t ≡ numbers.node_size t
      go (inl a) = same_node t (of_number t (is_number_of_one t u a))
      go (inr b) = nothing_node t u b

  -- ---- variables as they are laid

  laid_from : (ts : List Ty) (w : Room) → part.all part.is_word ts ≡ true
      → (all_behind w (rooms_of (rooms_in defs) ts)).size ≡ end_of w.size (map number_kind ts)
  laid_from [] w h = refl
  laid_from (Byte ∷ ts) w h = laid_from ts _ h
  laid_from (Int ∷ ts) w h = laid_from ts _ h
  laid_from (Big ∷ ts) w h = laid_from ts _ h
  laid_from (Nothing ∷ ts) w h = absurd (false≢true h)
  laid_from (ty.Nil ∷ ts) w h = absurd (false≢true h)
  laid_from (ty.Tuple us ∷ ts) w h = absurd (false≢true h)
  laid_from (ty.Adt n ∷ ts) w h = absurd (false≢true h)
  laid_from (_ ∷ ts) w h = laid_from ts _ h

  laid_agrees : (vs : List typed.Var) → part.all part.is_word (types_in vs) ≡ true
      → values.laid_size defs (types_in vs) ≡ end_of 0 (map (λ (v : typed.Var). number_kind v.ty) vs)
  laid_agrees vs h = laid_from (types_in vs) nothing h ∙ ap (λ (ks : List (Option Kind)). end_of 0 ks) (kinds_in vs)

  -- ---- places

  some_alike : (t : Ty) (v : Option typed.Var) → part.some_is (λ (w : typed.Var). part.are_alike t w.ty) v ≡ true → part.is_number t ≡ true
  some_alike t None h = absurd (false≢true h)
  some_alike t (Some v) h = is_number_of_one t v.ty h

  place_takes : (i : Inside) (p : typed.Place) → part.is_place i p ≡ true → values.place_size defs p ≡ 24
  place_takes i (At t (typed.Local x)) h =
      let a = (of_number t (some_alike t (slice_get i.variables x) h)).by_values in omega arith
  place_takes i (At t (typed.Global x)) h =
      let a = (of_number t (some_alike t (slice_get i.globals x) h)).by_values in omega arith
  place_takes i (At t _) h = absurd (false≢true h)

  place_node : (i : Inside) (p : typed.Place) → part.is_place i p ≡ true → values.node_size defs (type_at p) ≡ 24
  place_node i (At t (typed.Local x)) h = (of_number t (some_alike t (slice_get i.variables x) h)).by_values
  place_node i (At t (typed.Global x)) h = (of_number t (some_alike t (slice_get i.globals x) h)).by_values
  place_node i (At t _) h = absurd (false≢true h)

  -- An assignment writes one place, of the type of numbers that it has itself.
  record Writes (p : typed.Pattern) (t : Ty) : Type 0 where
    place : values.pattern_size defs p ≡ 24
    whole : Takes t 24

  assign_writes : (i : Inside) (p : typed.Pattern) (u t : Ty) → part.assigns i p u t ≡ true → Writes p t
  assign_writes i (typed.ToPlace q) u t h =
      record { place = place_takes i q (left _ _ (left _ _ h)); whole = of_number t (is_number_of_one t (type_at q) (right _ _ h)) }
  assign_writes i _ u t h = absurd (false≢true h)

  -- ---- expressions

  call_node : (g : Option Function) (ts : List Ty) (t : Ty)
      → part.some_is (λ (f : Function). part.all_alike ts f.of.args && part.answers_alike t f.of.answer) g ≡ true
      → values.node_size defs t ≡ numbers.node_size t
  call_node None ts t h = absurd (false≢true h)
  call_node (Some f) ts t h = answer_node t f.of.answer (right _ _ h)

  mutual
    expr_agrees : (i : Inside) (e : typed.Expr) → part.is_expr i e ≡ true → values.expr_size defs e ≡ numbers.expr_size e
    expr_agrees i (Of t n) h = node_agrees i t n h

    node_agrees : (i : Inside) (t : Ty) (n : typed.Node) → part.is_node i t n ≡ true
        → values.inner_size defs t n ≡ numbers.node_size t + numbers.inner_size n
    node_agrees i t (typed.Number n) h = let a = of_number t h in alone _ _ a.by_values a.by_numbers
    node_agrees i t (typed.Read p) h =
        alone _ _ (place_takes i p (left _ _ h)) (of_number t (is_number_of_one t (type_at p) (right _ _ h))).by_numbers
    node_agrees i t (typed.Apply o es) h =
        sums (same_node t (of_number t (is_number_of (kind_given o) t (right _ _ (right _ _ h))))) (exprs_agree i es (left _ _ h))
    node_agrees i t (typed.Lazy c l r) h =
        sums (same_node t (of_number t (third_is_number (type_of l) (type_of r) t (right _ _ h))))
        (sums (expr_agrees i l (left _ _ (left _ _ h))) (expr_agrees i r (right _ _ (left _ _ h))))
    node_agrees i t (typed.Assign p e) h =
        let a = assign_writes i p (type_of e) t (right _ _ h) in
        sums (same_node t a.whole) (sums a.place (expr_agrees i e (left _ _ h)))
    node_agrees i t (typed.Update o p e) h =
        let q = left _ _ (left _ _ (left _ _ h)) in
        let c = of_number t (is_number_of_one t (type_at p) (right _ _ h)) in
        sums (place_node i p q ∙ sym c.by_numbers)
        (sums (place_takes i p q) (expr_agrees i e (right _ _ (left _ _ (left _ _ h)))))
    node_agrees i t (typed.Step o g p) h =
        let q = left _ _ (left _ _ h) in
        let c = of_number t (is_number_of_one t (type_at p) (right _ _ h)) in
        sums (place_node i p q ∙ sym c.by_numbers) (place_takes i p q)
    node_agrees i t (typed.Call f es) h =
        sums (call_node (slice_get i.functions f) (types_of es) t (right _ _ h)) (exprs_agree i es (left _ _ h))
    node_agrees i t (typed.Print w m file ps es) h =
        sums (same_node t (of_number t (is_number_of kind.Int t (left _ (part.is_format ps) (right _ _ h)))))
        (ap (λ n. 48 + n) (exprs_agree i es (right _ _ (left _ _ (left _ _ h)))))
    node_agrees i t _ h = absurd (false≢true h)

    exprs_agree : (i : Inside) (es : typed.Exprs) → part.are_exprs i es ≡ true → values.exprs_size defs es ≡ numbers.exprs_size es
    exprs_agree i typed.NoExprs h = refl
    exprs_agree i (typed.MoreExprs e es) h =
        sums (expr_agrees i e (left _ _ h)) (exprs_agree i es (right _ _ h))

  some_agrees : (i : Inside) (e : Option typed.Expr) → part.is_value i e ≡ true
      → values.some_size defs e ≡ numbers.optional_size e
  some_agrees i None h = refl
  some_agrees i (Some e) h = expr_agrees i e h

  test_agrees : (i : Inside) (e : Option typed.Expr) → part.is_test i e ≡ true → values.some_size defs e ≡ numbers.optional_size e
  test_agrees i None h = refl
  test_agrees i (Some e) h = expr_agrees i e (left _ _ h)

  return_agrees : (i : Inside) (e : Option typed.Expr) → part.returns i e ≡ true → values.some_size defs e ≡ numbers.optional_size e
  return_agrees i None h = refl
  return_agrees i (Some e) h = expr_agrees i e (left _ _ h)

  -- ---- loading `Sys`

  module_takes : (n : ℕ) (t : Ty) → Stands (ty.Module n) t → Takes t 24
  module_takes n t (inr x) = absurd x
  module_takes n t (inl e) = subst (λ u. Takes u 24) e (record { by_values = refl; by_numbers = refl })

  loads_path : (b : Bool) (x : Option ℕ) → not (part.is_none (elim b as (λ c. Option ℕ) [ false ↦ None | true ↦ x ])) ≡ true
      → (b ≡ true) × (not (part.is_none x) ≡ true)
  loads_path true x h = (refl, h)
  loads_path false x h = absurd (false≢true h)

  path_takes : (v : Ty) (c : typed.Node) → part.is_path_node c ≡ true → v ≡ ty.Chars
      → values.inner_size defs v c ≡ numbers.node_size v + numbers.inner_size c
  path_takes v (typed.Chars s) h e =
      subst (λ u. values.node_size defs u ≡ numbers.node_size u + 0) (sym e) refl
  path_takes v _ h e = absurd (false≢true h)

  module _ (m : Module) (variables : List typed.Var) where
    global_takes : (p : typed.Pattern) (n : ℕ) → sound.SoundPattern m variables p (ty.Module n)
        → not (part.is_none (part.global_to p)) ≡ true → values.pattern_size defs p ≡ 24
    global_takes (typed.ToPlace (At t (typed.Global x))) n k h = let a = (module_takes n t k.1).by_values in omega arith
    global_takes _ n k h = absurd (false≢true h)

    load_agrees : (system : Option ℕ) (e : typed.Expr) → sound.SoundExpr m variables e
        → not (part.is_none (part.loads system e)) ≡ true → values.expr_size defs e ≡ numbers.expr_size e
    load_agrees system (Of t (typed.Assign p (Of u (typed.Load n (Of v c))))) k h =
        let q = loads_path (part.is_load_node system (typed.Load n (Of v c))) (part.global_to p) h in
        let l = k.1.0.1 in
        let u_takes = subst (λ w. Takes w 24) (sym l.2) (record { by_values = refl; by_numbers = refl }) in
        let t_takes = module_takes n t (subst (λ w. Stands w t) l.2 k.1.2) in
        sums (same_node t t_takes) (sums (global_takes p n (subst (λ w. sound.SoundPattern m variables p w) l.2 k.1.1) q.1)
        (sums (same_node u u_takes) (path_takes v c (right _ _ q.0) l.1)))
    load_agrees system _ k h = absurd (false≢true h)

    action_agrees : (i : Inside) (e : typed.Expr) → sound.SoundExpr m variables e → part.is_action i e ≡ true
        → values.expr_size defs e ≡ numbers.expr_size e
    action_agrees i e k h = go (one_holds (not (part.is_none (part.loads i.system e))) (part.is_expr i e) h)
      where
        go : (not (part.is_none (part.loads i.system e)) ≡ true) ⊎ (part.is_expr i e ≡ true)
            → values.expr_size defs e ≡ numbers.expr_size e
        go (inl a) = load_agrees i.system e k a
        go (inr b) = expr_agrees i e b

  -- ---- declarations

  number_at : (vs : List typed.Var) (x : ℕ) → part.some_is (λ (v : typed.Var). part.is_number v.ty) (slice_get vs x) ≡ true
      → part.is_number (slice_index_or (types_in vs) x Int) ≡ true
  number_at [] x h = refl
  number_at (v ∷ vs) zero h = h
  number_at (v ∷ vs) (suc x) h = number_at vs x h

  takes_number : (t : Ty) (v : Option typed.Var) → part.some_is (λ (w : typed.Var). part.are_alike t w.ty) v ≡ true
      → part.some_is (λ (w : typed.Var). part.is_number w.ty) v ≡ true
  takes_number t None h = h
  takes_number t (Some v) h = is_number_of_other t v.ty h

  values_zero : (i : Inside) (t : Ty) (xs : List ℕ) → part.all (part.takes_value i t) xs ≡ true → part.all (part.takes_zero i) xs ≡ true
  values_zero i t [] h = refl
  values_zero i t (x ∷ xs) h = both _ _ (takes_number t (slice_get i.variables x) (left _ _ h)) (values_zero i t xs (right _ _ h))

  module _ (i : Inside) where
    abbrev types : List Ty
    types = types_in i.variables

    variable_takes : (x : ℕ) → part.takes_zero i x ≡ true → values.variable_size defs types x ≡ 24
    variable_takes x h = (of_number (slice_index_or types x Int) (number_at i.variables x h)).by_values

    variables_take : (xs : List ℕ) → part.all (part.takes_zero i) xs ≡ true → values.variables_size defs types xs ≡ 24 * length xs
    variables_take [] h = refl
    variables_take (x ∷ xs) h =
        one_more _ _ (length xs) (variable_takes x (left _ _ h)) (variables_take xs (right (part.takes_zero i x) _ h))

    assignment_takes : (xs : List ℕ) → part.all (part.takes_zero i) xs ≡ true → values.assignment_size defs types xs ≡ 24
    assignment_takes [] h = refl
    assignment_takes (x ∷ xs) h = variable_takes x (left _ _ h)

    declared_agrees : (xs : List ℕ) (e : Option typed.Expr) → part.declares i xs e ≡ true
        → values.declared_size defs types xs e ≡ numbers.declared_size xs e
    declared_agrees xs None h = declared_sum _ _ 0 (length xs) 0 (assignment_takes xs h) (variables_take xs h) refl
    declared_agrees xs (Some e) h =
        let k = values_zero i (type_of e) xs (right _ _ h) in
        declared_sum _ _ _ (length xs) _ (assignment_takes xs k) (variables_take xs k) (expr_agrees i e (left _ _ h))

-- ---- statements

module _ (m : Module) (f : Function) where
  abbrev around_it : Inside
  around_it = part.inside m f

  abbrev local_types : List Ty
  local_types = types_in f.variables

  mutual
    stmt_agrees : (loops : List Bool) (n : ℕ) (s : typed.Stmt) → sound.SoundStmt m f loops s → part.is_stmt around_it n s ≡ true
        → values.stmt_size m.adts local_types s ≡ numbers.stmt_size s
    stmt_agrees loops n typed.Empty k h = refl
    stmt_agrees loops n (typed.Block ss) k h = stmts_agree loops n ss k h
    stmt_agrees loops n (typed.Declare xs e) k h = declared_agrees m.adts around_it xs e h
    stmt_agrees loops n (typed.Eval e) k h = action_agrees m.adts m f.variables around_it e k h
    stmt_agrees loops n (typed.If c ss others) k h =
        maxes (expr_agrees m.adts around_it c (left _ _ (left _ _ (left _ _ h))))
        (maxes (stmts_agree loops n ss k.1 (right _ _ (left _ _ h))) (stmts_agree loops n others k.2 (right _ _ h)))
    stmt_agrees loops n (typed.While c ss) k h =
        maxes (test_agrees m.adts around_it c (left _ _ h)) (stmts_agree (true ∷ loops) (suc n) ss k.1 (right _ _ h))
    stmt_agrees loops n (typed.Do ss c) k h =
        maxes (test_agrees m.adts around_it c (right _ _ h)) (stmts_agree (true ∷ loops) (suc n) ss k.0 (left _ _ h))
    stmt_agrees loops n (typed.For first c next ss) k h =
        maxes (some_agrees m.adts around_it first (left _ _ (left _ _ (left _ _ h))))
        (maxes (test_agrees m.adts around_it c (right _ _ (left _ _ (left _ _ h))))
        (maxes (some_agrees m.adts around_it next (right _ _ (left _ _ h))) (stmts_agree (true ∷ loops) (suc n) ss k.3 (right _ _ h))))
    stmt_agrees loops n (typed.Break i) k h = refl
    stmt_agrees loops n (typed.Continue i) k h = refl
    stmt_agrees loops n (typed.Return e) k h = return_agrees m.adts around_it e h
    stmt_agrees loops n _ k h = absurd (false≢true h)

    stmts_agree : (loops : List Bool) (n : ℕ) (ss : typed.Stmts) → sound.SoundStmts m f loops ss → part.are_stmts around_it n ss ≡ true
        → values.stmts_size m.adts local_types ss ≡ numbers.stmts_size ss
    stmts_agree loops n typed.NoStmts k h = refl
    stmts_agree loops n (typed.MoreStmts s ss) k h =
        maxes (stmt_agrees loops n s k.0 (left _ _ h)) (stmts_agree loops n ss k.1 (right _ _ h))

-- ---- functions and modules

each_at : {A : Type 0} (P : A → Type 0) (xs : List A) (n : ℕ) (x : A) → slice_get xs n ≡ Some x → Each P xs → P x
each_at P [] n x e k = absurd (none-some x e)
each_at P (y ∷ xs) zero x e k = subst P (same_Some y x e) k.0
each_at P (y ∷ xs) (suc n) x e k = each_at P xs n x e k.1

frame_agrees : (m : Module) (n : ℕ) (f : Function) → IsSound m → part.is_part m ≡ true → slice_get m.functions n ≡ Some f
    → values.frame_size m.adts f ≡ numbers.frame_size f
frame_agrees m n f k h e =
    let p = all_at (part.is_function m) m.functions n f e (right _ _ h) in
    sums (ap (λ n. 40 + n) (laid_agrees m.adts f.variables (right _ _ (left _ _ (left _ _ (left _ _ p))))))
    (stmts_agree m f [] 0 f.body (each_at (sound.SoundFunction m) m.functions n f e k.functions).body (right _ _ p))

globals_agree : (m : Module) → part.is_part m ≡ true → values.globals_size m ≡ numbers.globals_size m
globals_agree m h = laid_agrees m.adts m.globals (left _ _ (left _ _ (left _ _ h)))

too_large_by_values : (m : Module) → IsSound m → part.is_part m ≡ true → numbers.FrameTooLarge m → values.FrameTooLarge m
too_large_by_values m k h (inl l) =
    let a = frame_agrees m l.number l.function k h l.there in
    let b = l.large in
    inl (record { number = l.number; function = l.function; there = l.there; large = omega arith })
too_large_by_values m k h (inr l) = let a = globals_agree m h in inr (omega arith)

too_large_by_numbers : (m : Module) → IsSound m → part.is_part m ≡ true → values.FrameTooLarge m → numbers.FrameTooLarge m
too_large_by_numbers m k h (inl l) =
    let a = frame_agrees m l.number l.function k h l.there in
    let b = l.large in
    inl (record { number = l.number; function = l.function; there = l.there; large = omega arith })
too_large_by_numbers m k h (inr l) = let a = globals_agree m h in inr (omega arith)

pub frames_agree : FramesAgree
frames_agree = record {
  frames = frame_agrees;
  globals = globals_agree;
  too_large = λ m k h. (too_large_by_values m k h, too_large_by_numbers m k h);
}
