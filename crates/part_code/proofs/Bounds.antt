-- How many temporaries and bytes of arguments the code of expressions of the part needs.
use Rattle.std.proofs.Common.{◌≡◌, ℕ, zero, suc, ◌+◌, ◌-◌, ◌*◌, ◌≤◌, Bool, true, false, ◌&&◌, List, [], ◌∷◌, ◌++◌, length, Option, Some, None}
use Rattle.std.proofs.Common.{refl, sym, ap, ◌∙◌, subst, arith}
use Rattle.std.specs.Prelude.{slice_get, take, nat_eq, if◌then◌else◌}
use Rattle.std.proofs.lemmas.Bool.{false≢true}
use Rattle.std.proofs.lemmas.Option.{none-some, same_Some}
use Rattle.std.proofs.lemmas.Bool.{leb-true}
use Rattle.std.proofs.lemmas.List.{length-append}
use Rattle.limbo_values.specs.Texts.{longest}
use Rattle.limbo_types.specs.Types.{Ty, Byte}
use Rattle.limbo_values.specs.declared.number.Kind.{Kind}
use Rattle.limbo_values.specs.declared.number.Kind.TheVariants as kind
use Rattle.limbo_typed.specs.declared.operation.Operation.{Operation}
use Rattle.limbo_typed.specs.declared.operation.Operation.TheVariants as operation
use Rattle.limbo_typed.specs.declared.operation.Given.{Given as Which}
use Rattle.limbo_typed.specs.declared.operation.Given.TheVariants as given
use Rattle.limbo_typed.specs.declared.print.Printed.{Printed}
use Rattle.limbo_typed.specs.declared.print.Printed.TheVariants as printed
use Rattle.limbo_typed.specs.declared.print.Piece.{Piece as Written}
use Rattle.limbo_typed.specs.declared.print.Piece.TheVariants as piece
use Rattle.limbo_typed.specs.declared.print.Hole.{Hole}
use Rattle.limbo_typed.specs.declared.print.Hole.TheVariants as hole
use Rattle.limbo_typed.specs.Typed as typed
use Rattle.limbo_typed.specs.Typed.{Of, At}
use Rattle.limbo_typed.specs.Sound.{types_of, type_at}
use Rattle.system_model.specs.Values.{Num}
use Rattle.typed_meaning.specs.Values.{kind_of, fitted}
use Rattle.typed_meaning.specs.Trees as tree
use Rattle.typed_meaning.specs.Trees.{Term, Terms, Literal, Read, Apply, Lazy, Store, Change, Call, Print, MoreTerms, NoTerms}
use Rattle.typed_meaning.specs.Program.{term_of, terms_of, node_of, at_place, place_to, printing, as_printed, printed_of}
use Rattle.slot_code.specs.Code as code
use Rattle.slot_code.specs.Code.{Spot, Temporary, Operand, In, Inst, Begin, Format, Function, Module}
use Rattle.dis_objects.specs.Code.{doubled, hole_text, format_text}
use Rattle.dis_objects.specs.Frames as frames
use Rattle.dis_objects.specs.Frames.{Callee, Calls, Prints, parameters, parameters_of, printed_kinds, argument_bytes, all_bytes, spot_count}
use Rattle.typed_lower.specs.Kinds.{spot_at, leaf, kind_in, kind_given}
use Rattle.typed_lower.specs.Terms.{Part, part_of, parts_of, applied, compared, connected, truth_of, from_leaf, assigned_first, changed}
use Rattle.typed_lower.specs.Terms.{made_ready, answered, count, code_of, part}
use Rattle.typed_lower.specs.Statements.{function_code, effects}
use Rattle.typed_part.specs.Part as test
use Rattle.typed_part.specs.Part.{Inside, gives}
use Rattle.typed_part.proofs.Tests.{left, right}
use Rattle.part_code.proofs.Counted.{expr_places, inner_places, exprs_places}
use Rattle.part_code.proofs.Alike.{of_none, of_more}
use Rattle.part_code.proofs.Held.{Held}
use Rattle.part_code.proofs.Fitting.{Fits, FitsValue, FitsBranches, NoTemporary, temporary_count, one_fits, two_fits, one_compared}
use Rattle.part_code.proofs.Fitting.{two_compared, connected_fits, truth_fits, assigned_fits, new_fits, old_fits, leaf_fits, plain_fits}
use Rattle.part_code.proofs.Making.{AllBelow, call_fits, print_fits, call_bytes, print_bytes}
use Rattle.part_code.proofs.Callees.{some_holds, arguments_many}
use Rattle.part_code.proofs.Expressions.{Knows, at_proper, exprs_proper, printed_parts, many_parts}

-- ---- how many there are

many_terms : (ts : Terms) → length (parts_of ts) ≡ count ts
many_terms NoTerms = refl
many_terms (MoreTerms t ts) = ap suc (many_terms ts)

many_exprs : (es : typed.Exprs) → length (types_of es) ≡ count (terms_of es)
many_exprs typed.NoExprs = refl
many_exprs (typed.MoreExprs e es) = ap suc (many_exprs es)

many_printed : (es : typed.Exprs) → count (printed_of es) ≡ length (types_of es)
many_printed typed.NoExprs = refl
many_printed (typed.MoreExprs (Of t n) es) = ap suc (many_printed es)

many_places : (es : typed.Exprs) → length (types_of es) ≤ exprs_places es
many_places typed.NoExprs = omega arith
many_places (typed.MoreExprs (Of t n) es) = let h = many_places es in omega (arith, h)

taken_most : (n : ℕ) (ks : List (Option Kind)) → length (take n ks) ≤ n
taken_most zero ks = none ks
  where
    none : (js : List (Option Kind)) → length (take 0 js) ≤ 0
    none [] = omega arith
    none (j ∷ js) = omega arith
taken_most (suc n) [] = omega arith
taken_most (suc n) (k ∷ ks) = let h = taken_most n ks in omega (arith, h)

pub fixed_place : (t : Ty) (n : tree.PlaceNode) (k : Kind) → spot_count k (spot_at t n) ≤ 0
fixed_place t (tree.Local x) k = omega arith
fixed_place t (tree.Global x) k = omega arith

-- ---- texts of formats

-- A character, written once or twice, and the others.
one_long : (b : Bool) (c n : ℕ) (ds : List ℕ) → length ds ≡ n → length (if b then 37 ∷ 37 ∷ ds else c ∷ ds) ≡ (if b then 2 else 1) + n
one_long true c n ds e = omega (arith, e)
one_long false c n ds e = omega (arith, e)

doubled_long : (cs : List ℕ) → length (doubled cs) ≡ test.written_size cs
doubled_long [] = refl
doubled_long (c ∷ cs) = one_long (nat_eq c 37) c (test.written_size cs) (doubled cs) (doubled_long cs)

hole_long : (h : Hole) → length (hole_text h) ≡ test.hole_size h
hole_long (hole.Decimal kind.Big) = refl
hole_long (hole.Decimal kind.Int) = refl
hole_long (hole.Decimal kind.Byte) = refl
hole_long hole.Character = refl
hole_long hole.Hexadecimal = refl
hole_long hole.Chars = refl
hole_long hole.Error = refl

format_long : (ps : List Written) → length (format_text ps) ≡ test.format_size ps
format_long [] = refl
format_long (piece.Chars cs ∷ ps) =
    let r = format_long ps in
    let d = doubled_long cs in
    let a = length-append (doubled cs) (format_text ps) in
    omega (arith, r, d, a)
format_long (piece.Hole h ∷ ps) =
    let r = format_long ps in
    let d = hole_long h in
    let a = length-append (hole_text h) (format_text ps) in
    omega (arith, r, d, a)

format_few : (ps : List Written) → test.is_format ps ≡ true → length (format_text ps) ≤ longest
format_few ps h = let l = format_long ps in let m = leb-true (test.format_size ps) longest h in omega (arith, l, m)

module _ (fs : List Function) where
  fits_as : (w v : ℕ) (p : Part) → w ≡ v → Fits fs w p → Fits fs v p
  fits_as w v p e h = subst (λ n. Fits fs n p) e h

  whole_fits : (w : ℕ) (t : Term) (value : ℕ → Spot → List Inst) (branches : Bool → ℕ → ℕ → List Inst) → 1 ≤ w → leaf t ≡ None
      → FitsValue fs w value → FitsBranches fs w branches → Fits fs w (part t value branches)
  whole_fits w t value branches s l h b =
      record { some = s; leaf = λ x e. absurd (none-some x (sym l ∙ e)); value = h; branches = b }

  -- A tree as a part of others, and as a statement.
  pub record FitsTerm (w : ℕ) (a : Term) : Type 0 where
    pub part : Fits fs w (part_of a)
    pub effects : (cs : List Callee) (T L : ℕ) → w ≤ T → all_bytes fs cs + 8 * w ≤ L + 8 → Held fs T L cs cs (effects a)

  pub term_as : (w v : ℕ) (a : Term) → w ≡ v → FitsTerm w a → FitsTerm v a
  term_as w v a e h = subst (λ n. FitsTerm n a) e h

  valued : (w : ℕ) (a : Term) → effects a ≡ code_of 1 a (Temporary (kind_in a) 0) → Fits fs w (part_of a) → FitsTerm w a
  valued w a c p = record {
    part = p;
    effects = λ cs T L l b.
        let s = p.some in
        subst (Held fs T L cs cs) (sym c)
        (p.value cs 1 (Temporary (kind_in a) 0) T L (omega (arith, l)) (λ k. temporary_count k (kind_in a) 0 T (omega (arith, l, s))) b);
  }

  -- ---- leaves

  literal_fits : (t : Ty) (z : _) → FitsTerm 1 (Literal t (fitted t (Num z)))
  literal_fits t z =
      let a = Literal t (fitted t (Num z)) in
      let n : NoTemporary (leaf a) = λ x e k. subst (λ y. frames.operand_count k y ≤ 0) (same_Some _ x e) (omega arith) in
      valued 1 a refl (plain_fits fs 1 a (λ d s. from_leaf (leaf a) s) (omega arith) n (leaf_fits fs 1 (leaf a) (omega arith) n))

  read_none : (t : Ty) (n : tree.PlaceNode) → NoTemporary (leaf (Read (tree.At t n)))
  read_none t n x e k = subst (λ y. frames.operand_count k y ≤ 0) (same_Some (In (spot_at t n)) x e) (fixed_place t n k)

  read_fits : (t : Ty) (n : tree.PlaceNode) → Fits fs 1 (part_of (Read (tree.At t n)))
  read_fits t n =
      let a = Read (tree.At t n) in
      plain_fits fs 1 a (λ d s. from_leaf (leaf a) s) (omega arith) (read_none t n) (leaf_fits fs 1 (leaf a) (omega arith) (read_none t n))

  -- ---- operations

  one_part : (o : Operation) (a : Term) (w : ℕ) → Fits fs w (part_of a) → Fits fs (suc w) (part_of (Apply o (MoreTerms a NoTerms)))
  one_part o a w h =
      let v = one_fits fs o w (part_of a) h in
      let value = applied o (part_of a ∷ []) in
      whole_fits (suc w) (Apply o (MoreTerms a NoTerms)) value (compared o (part_of a ∷ []) (kind_given o) value) (omega arith) refl v
      (one_compared fs o (part_of a) (suc w) (kind_given o) value (omega arith) v)

  two_part : (o : Operation) (a b : Term) (w v : ℕ) → Fits fs w (part_of a) → Fits fs v (part_of b)
      → Fits fs (suc (w + v)) (part_of (Apply o (MoreTerms a (MoreTerms b NoTerms))))
  two_part o a b w v h g =
      let ps = part_of a ∷ part_of b ∷ [] in
      let i = two_fits fs o w v (part_of a) (part_of b) h g in
      whole_fits (suc (w + v)) (Apply o (MoreTerms a (MoreTerms b NoTerms))) (applied o ps) (compared o ps (kind_given o) (applied o ps))
      (omega arith) refl i (two_compared fs o (part_of a) (part_of b) w v (kind_given o) (applied o ps) h g i)

  abbrev pub AllFits : typed.Exprs → Type 0
  AllFits typed.NoExprs = Unit {0}
  AllFits (typed.MoreExprs e es) = Fits fs (expr_places e) (part_of (term_of e)) × AllFits es

  apply_fits : (o : Operation) (es : typed.Exprs) (t : Ty) → gives o (types_of es) t ≡ true → AllFits es
      → Fits fs (suc (exprs_places es)) (part_of (Apply o (terms_of es)))
  apply_fits o typed.NoExprs t h ps = absurd (of_none o t h)
  apply_fits o (typed.MoreExprs a typed.NoExprs) t h ps =
      fits_as (suc (expr_places a)) (suc (expr_places a + 0)) _ (omega arith) (one_part o (term_of a) (expr_places a) ps.0)
  apply_fits o (typed.MoreExprs a (typed.MoreExprs b typed.NoExprs)) t h ps =
      fits_as (suc (expr_places a + expr_places b)) (suc (expr_places a + (expr_places b + 0))) _ (omega arith)
      (two_part o (term_of a) (term_of b) (expr_places a) (expr_places b) ps.0 ps.1.0)
  apply_fits o (typed.MoreExprs a (typed.MoreExprs b (typed.MoreExprs c es))) t h ps = absurd (of_more o _ _ _ (types_of es) t h)

  lazy_fits : (x : _) (l r : Term) (w v : ℕ) → Fits fs w (part_of l) → Fits fs v (part_of r) → Fits fs (suc (w + v)) (part_of (Lazy x l r))
  lazy_fits x l r w v h g =
      let b = connected x (part_of l) (part_of r) in
      let c = connected_fits fs x w v (part_of l) (part_of r) h.branches g.branches in
      whole_fits (suc (w + v)) (Lazy x l r) (truth_of b) b (omega arith) refl (truth_fits fs (w + v) b c)
      (λ cs i d n T L p q. c cs i d n T L (omega (arith, p)) (omega (arith, q)))

  -- ---- assignments

  store_fits : (t : Ty) (n : tree.PlaceNode) (a : Term) (w : ℕ) → Fits fs w (part_of a) → FitsTerm (suc (suc w)) (Store (tree.At t n) a)
  store_fits t n a w h = record {
    part =
        plain_fits fs (suc (suc w)) (Store (tree.At t n) a) (assigned_first (part_of a) (spot_at t n)) (omega arith)
        (λ x e. absurd (none-some x e)) (assigned_fits fs w (part_of a) (spot_at t n) h (fixed_place t n));
    effects = λ cs T L l b.
        h.value cs 0 (spot_at t n) T L (omega (arith, l)) (λ k. let z = fixed_place t n k in omega (arith, z)) (omega (arith, b));
  }

  change_fits : (o : Operation) (g : Which) (t : Ty) (n : tree.PlaceNode) (ts : Terms) (w : ℕ) → 1 ≤ w
      → FitsValue fs w (applied o (parts_of ts)) → FitsValue fs w (changed g o (kind_of t) (spot_at t n) (parts_of ts))
      → FitsTerm w (Change o g (tree.At t n) ts)
  change_fits o g t n ts w s v c = record {
    part =
        plain_fits fs w (Change o g (tree.At t n) ts) (changed g o (kind_of t) (spot_at t n) (parts_of ts)) s
        (λ x e. absurd (none-some x e)) c;
    effects = λ cs T L l b.
        v cs 0 (spot_at t n) T L (omega (arith, l)) (λ k. let z = fixed_place t n k in omega (arith, z)) (omega (arith, b));
  }

  update_fits : (o : Operation) (t : Ty) (n : tree.PlaceNode) (a : Term) (w : ℕ) → Fits fs w (part_of a)
      → FitsTerm (suc (suc w)) (Change o given.New (tree.At t n) (MoreTerms (Read (tree.At t n)) (MoreTerms a NoTerms)))
  update_fits o t n a w h =
      let r = Read (tree.At t n) in
      let ps = part_of r ∷ part_of a ∷ [] in
      let e : suc (1 + w) ≡ suc (suc w) = omega arith in
      let v : FitsValue fs (suc (suc w)) (applied o ps) =
      subst (λ k. FitsValue fs k (applied o ps)) e (two_fits fs o 1 w (part_of r) (part_of a) (read_fits t n) h) in
      change_fits o given.New t n (MoreTerms r (MoreTerms a NoTerms)) (suc (suc w)) (omega arith) v
      (new_fits fs o (suc (suc w)) (kind_of t) (spot_at t n) ps (omega arith) v (fixed_place t n))

  step_fits : (o : Operation) (g : Which) (t : Ty) (n : tree.PlaceNode)
      → FitsTerm 2 (Change o g (tree.At t n) (MoreTerms (Read (tree.At t n)) NoTerms))
  step_fits o given.Old t n =
      let r = Read (tree.At t n) in
      change_fits o given.Old t n (MoreTerms r NoTerms) 2 (omega arith) (one_fits fs o 1 (part_of r) (read_fits t n))
      (old_fits fs o 2 (kind_of t) (spot_at t n) (part_of r ∷ []) (omega arith) (fixed_place t n))
  step_fits o given.New t n =
      let r = Read (tree.At t n) in
      let v = one_fits fs o 1 (part_of r) (read_fits t n) in
      change_fits o given.New t n (MoreTerms r NoTerms) 2 (omega arith) v
      (new_fits fs o 2 (kind_of t) (spot_at t n) (part_of r ∷ []) (omega arith) v (fixed_place t n))

  -- ---- arguments

  below : (es : typed.Exprs) → AllFits es → (b : ℕ) → suc (exprs_places es) ≤ b + length (types_of es)
      → AllBelow fs b (parts_of (terms_of es))
  below typed.NoExprs h b l = tt
  below (typed.MoreExprs e es) h b l =
      let s = h.0.some in
      let m = many_places es in
      ((expr_places e, h.0, omega (arith, l, m)), below es h.1 b (omega (arith, l, s)))

  printed_fits : (t : Ty) (a : Term) (w b : ℕ) → Fits fs w (part_of a) → suc w ≤ b
      → (v : ℕ) × Fits fs v (part_of (as_printed t a)) × (v ≤ b)
  printed_fits Byte a w b h l = (suc w, one_part (operation.Convert kind.Byte kind.Int) a w h, l)
  printed_fits _ a w b h l = (w, h, omega (arith, l))

  printed_below : (es : typed.Exprs) → AllFits es → (b : ℕ) → suc (suc (exprs_places es)) ≤ b + length (types_of es)
      → AllBelow fs b (parts_of (printed_of es))
  printed_below typed.NoExprs h b l = tt
  printed_below (typed.MoreExprs (Of t n) es) h b l =
      let s = h.0.some in
      let m = many_places es in
      (printed_fits t (node_of t n) (suc (inner_places n)) b h.0 (omega (arith, l, m)), printed_below es h.1 b (omega (arith, l, s)))

  call_part : (g : ℕ) (t : Ty) (es : typed.Exprs) → AllFits es → length (parameters fs (Calls g)) ≤ count (terms_of es)
      → FitsTerm (suc (exprs_places es)) (Call t g (terms_of es))
  call_part g t es h l =
      let n = count (terms_of es) in
      let w = exprs_places es in
      let b = suc w - n in
      let m = many_places es in
      let e = many_exprs es in
      valued (suc w) (Call t g (terms_of es)) refl
      (plain_fits fs (suc w) (Call t g (terms_of es))
      (λ d s. made_ready (Begin g) (parts_of (terms_of es)) d ++ code.Call (kind_of t) g n s ∷ []) (omega arith)
      (λ x q. absurd (none-some x q))
      (call_fits fs g (kind_of t) n w b (parts_of (terms_of es)) (below es h b (omega (arith, m, e))) (many_terms (terms_of es))
      (omega (arith, m, e)) (omega (arith, m, e)) (call_bytes fs g n l)))

-- ---- expressions

module _ (m : Module) (f : Function) (i : Inside) (know : Knows m f i) where
  call_known : (g : ℕ) (t : Ty) (es : typed.Exprs) → test.calls i g (types_of es) t ≡ true
      → length (parameters m.functions (Calls g)) ≤ count (terms_of es)
  call_known g t es h =
      let ts = types_of es in
      let a = some_holds (λ (x : typed.Function). test.all_alike ts x.of.args && test.answers_alike t x.of.answer)
      (slice_get i.functions g) h in
      let F : typed.Function = a.0 in
      let k = know.callee g F a.1 in
      let n = arguments_many ts F.of.args (left _ _ a.2) in
      let e = many_exprs es in
      let its : length (parameters_of (Some (function_code F))) ≤ length F.of.args =
      taken_most (length F.of.args) (function_code F).variables in
      subst (λ o. length (parameters_of o) ≤ count (terms_of es)) (sym k.0) (omega (arith, its, n, e))

  print_part : (w : Printed) (file : typed.Optional) (ps : List Written) (es : typed.Exprs)
      → (test.is_print w && test.is_absent file) ≡ true
      → test.are_printed ps (types_of es) ≡ true → test.are_exprs i es ≡ true → test.is_format ps ≡ true → AllFits m.functions es
      → FitsTerm m.functions (suc (suc (suc (exprs_places es)))) (printing w file ps (printed_of es))
  print_part printed.Print typed.Absent ps es h r x good a =
      let fs = m.functions in
      let ts = printed_of es in
      let n = count ts in
      let w = exprs_places es in
      let b = suc (suc w) - n in
      let many = many_places es in
      let e = many_printed es in
      let l : length (printed_kinds ps) ≡ n =
      many_parts m f (printed_kinds ps) ts (printed_parts m f ps es r (exprs_proper m f i know es x)) in
      valued fs (suc (suc (suc w))) (Print ps ts) refl
      (plain_fits fs (suc (suc (suc w))) (Print ps ts) (λ d s. made_ready (Format ps) (parts_of ts) d ++ answered n d s) (omega arith)
      (λ y q. absurd (none-some y q))
      (print_fits fs ps n w b (parts_of ts) (printed_below fs es a b (omega (arith, many, e))) (omega (arith, many, e))
      (omega (arith, many, e))
      (print_bytes fs ps n l) (format_few ps good)))
  print_part printed.Print (typed.Present e) ps es h r x good a = absurd (false≢true h)
  print_part _ file ps es h r x good a = absurd (false≢true h)

  assign_fits : (p : typed.Pattern) (u t : Ty) (a : Term) (w : ℕ) → test.assigns i p u t ≡ true → Fits m.functions w (part_of a)
      → FitsTerm m.functions (suc (suc w)) (at_place (place_to p) (λ q. Store q a))
  assign_fits (typed.ToPlace q) u t a w h p =
      at_proper m f i q (FitsTerm m.functions (suc (suc w))) (λ r. Store r a) know (left _ _ (left _ _ h))
      (λ n z. store_fits m.functions (type_at q) n a w p)
  assign_fits _ u t a w h p = absurd (false≢true h)

  mutual
    pub expr_fits : (e : typed.Expr) → test.is_expr i e ≡ true → FitsTerm m.functions (expr_places e) (term_of e)
    expr_fits (Of t n) h = node_fits t n h

    node_fits : (t : Ty) (n : typed.Node) → test.is_node i t n ≡ true → FitsTerm m.functions (suc (inner_places n)) (node_of t n)
    node_fits t (typed.Number n) h = literal_fits m.functions t n
    node_fits t (typed.Read p) h =
        at_proper m f i p (FitsTerm m.functions 1) Read know (left _ _ h)
        (λ n z. valued m.functions 1 (Read (tree.At (type_at p) n)) refl (read_fits m.functions (type_at p) n))
    node_fits t (typed.Apply o es) h =
        valued m.functions (suc (exprs_places es)) (Apply o (terms_of es)) refl
        (apply_fits m.functions o es t (right _ _ h) (exprs_fit es (left _ _ h)))
    node_fits t (typed.Lazy c l r) h =
        valued m.functions (suc (expr_places l + expr_places r)) (Lazy c (term_of l) (term_of r)) refl
        (lazy_fits m.functions c (term_of l) (term_of r) (expr_places l) (expr_places r) (expr_fits l (left _ _ (left _ _ h))).part
        (expr_fits r (right _ _ (left _ _ h))).part)
    node_fits t (typed.Assign p e) h =
        assign_fits p _ t (term_of e) (expr_places e) (right _ _ h) (expr_fits e (left _ _ h)).part
    node_fits t (typed.Update o p e) h =
        at_proper m f i p (FitsTerm m.functions (suc (suc (expr_places e))))
        (λ q. Change o given.New q (MoreTerms (Read q) (MoreTerms (term_of e) NoTerms))) know (left _ _ (left _ _ (left _ _ h)))
        (λ n z. update_fits m.functions o (type_at p) n (term_of e) (expr_places e) (expr_fits e (right _ _ (left _ _ (left _ _ h)))).part)
    node_fits t (typed.Step o g p) h =
        at_proper m f i p (FitsTerm m.functions 2) (λ q. Change o g q (MoreTerms (Read q) NoTerms)) know (left _ _ (left _ _ h))
        (λ n z. step_fits m.functions o g (type_at p) n)
    node_fits t (typed.Call g es) h = call_part m.functions g t es (exprs_fit es (left _ _ h)) (call_known g t es (right _ _ h))
    node_fits t (typed.Print v x file ps es) h =
        let a = right _ _ (left _ _ (left _ _ h)) in
        print_part v file ps es (left _ _ (left _ _ (left _ _ (left _ _ h)))) (right _ _ (left _ _ h)) a (right _ _ (right _ _ h))
        (exprs_fit es a)
    node_fits t _ h = absurd (false≢true h)

    exprs_fit : (es : typed.Exprs) → test.are_exprs i es ≡ true → AllFits m.functions es
    exprs_fit typed.NoExprs h = tt
    exprs_fit (typed.MoreExprs e es) h = ((expr_fits e (left _ _ h)).part, exprs_fit es (right _ _ h))
