-- The code of expressions of the part is proper.
use Rattle.std.proofs.Common.{◌≡◌, ℕ, suc, true, ◌&&◌, List, [], ◌∷◌, ◌++◌, length, map, Some, refl, sym}
use Rattle.std.proofs.Common.{ap, ◌∙◌, subst}
use Rattle.std.specs.Prelude.{slice_get}
use Rattle.std.proofs.lemmas.Bool.{false≢true}
use Rattle.std.proofs.lemmas.Option.{none-some, same_Some}
use Rattle.limbo_types.specs.Types.{Ty, Byte, Int, Big}
use Rattle.limbo_values.specs.declared.number.Kind.{Kind}
use Rattle.limbo_values.specs.declared.number.Kind.TheVariants as kind
use Rattle.limbo_values.proofs.Ranges.{always}
use Rattle.limbo_typed.specs.declared.operation.Operation.{Operation}
use Rattle.limbo_typed.specs.declared.operation.Operation.TheVariants as operation
use Rattle.limbo_typed.specs.declared.operation.Connective.{Connective}
use Rattle.limbo_typed.specs.declared.operation.Given.{Given as Which}
use Rattle.limbo_typed.specs.declared.operation.Given.TheVariants as given
use Rattle.limbo_typed.specs.declared.print.Printed.{Printed}
use Rattle.limbo_typed.specs.declared.print.Printed.TheVariants as printed
use Rattle.limbo_typed.specs.declared.print.Piece.{Piece as Written}
use Rattle.limbo_typed.specs.declared.print.Piece.TheVariants as piece
use Rattle.limbo_typed.specs.declared.print.Hole.{Hole}
use Rattle.limbo_typed.specs.declared.print.Hole.TheVariants as hole
use Rattle.limbo_typed.specs.Typed as typed
use Rattle.limbo_typed.specs.Typed.{Of, At}
use Rattle.limbo_typed.specs.Sound.{type_of, types_of, type_at}
use Rattle.system_model.specs.Values.{Num}
use Rattle.typed_meaning.specs.Values.{kind_of, fitted}
use Rattle.typed_meaning.specs.Trees as tree
use Rattle.typed_meaning.specs.Trees.{Term, Terms, Literal, Read, Apply, Lazy, Store, Change, Call, Print, MoreTerms, NoTerms}
use Rattle.typed_meaning.specs.Program.{term_of, terms_of, node_of, at_place, place_of, place_to, printing, as_printed, printed_of}
use Rattle.slot_code.specs.Code as code
use Rattle.slot_code.specs.Code.{Spot, Temporary, Operand, Inst, Begin, Format, Function, Module, GlobalVariable}
use Rattle.dis_objects.specs.Frames.{Callee, Calls, parameters_of, hole_kinds, printed_kinds}
use Rattle.dis_objects.specs.Code.{spot_kind}
use Rattle.dis_objects.specs.Proper.{IsRead, IsTaken, TellsNumber, AllTellNumbers}
use Rattle.typed_lower.specs.Kinds.{spot_at, leaf, kind_in, kind_given}
use Rattle.typed_lower.specs.Terms.{part_of, parts_of, applied, compared, connected, truth_of, from_leaf, assigned_first, changed}
use Rattle.typed_lower.specs.Terms.{made_ready}
use Rattle.typed_lower.specs.Terms.{answered, count, code_of}
use Rattle.typed_lower.specs.Statements.{number_kind, function_code, effects}
use Rattle.typed_part.specs.Part as part
use Rattle.typed_part.specs.Part.{Inside, is_of, is_number, are_alike, gives, some_is}
use Rattle.typed_part.proofs.Tests.{left, right}
use Rattle.part_code.proofs.Alike.{has_kind, alike, alike_kinds, answer_kinds, OfOne, OfTwo, of_one, of_two, of_none, of_more}
use Rattle.part_code.proofs.Level.{Plain}
use Rattle.part_code.proofs.Operands.{ProperValue, ProperPart, part_as, written}
use Rattle.part_code.proofs.Conditions.{one_applied, two_applied, one_compared, two_compared, connecting, truth_value, assigning}
use Rattle.part_code.proofs.Conditions.{new_changed, old_changed, moved_leaf, plain_part, whole_part}
use Rattle.part_code.proofs.Calls.{ProperParts, Callable, calling, prints, given_first}
use Rattle.part_code.proofs.Callees.{some_holds, arguments_many, arguments_there, arguments_numbers, arguments_taken}

abbrev pub kinds_of : typed.Exprs → List Kind
kinds_of es = map kind_of (types_of es)

module _ (m : Module) (f : Function) where
  -- What the module's code and the function's have of what stands around an expression.
  pub record Knows (i : Inside) : Type 0 where
    pub local : (x : ℕ) (v : typed.Var) → slice_get i.variables x ≡ Some v → slice_get f.variables x ≡ Some (number_kind v.ty)
    pub global : (x : ℕ) (v : typed.Var) → slice_get i.globals x ≡ Some v
        → (g : GlobalVariable) × (slice_get m.globals x ≡ Some g) × (g.kind ≡ number_kind v.ty)
    pub callee : (n : ℕ) (g : typed.Function) → slice_get i.functions n ≡ Some g
        → (slice_get m.functions n ≡ Some (function_code g)) × (part.begin_with g.of.args (part.types_in g.variables) ≡ true)
    pub answer : f.answer ≡ kind_of i.answer

  -- ---- places

  pub read_local : (i : Inside) (t : Ty) (x : ℕ) → Knows i → some_is (λ v. are_alike t v.ty) (slice_get i.variables x) ≡ true
      → IsRead m f (code.Variable (kind_of t) x)
  read_local i t x w h =
      let a = some_holds (λ (v : typed.Var). are_alike t v.ty) (slice_get i.variables x) h in
      w.local x a.0 a.1 ∙ ap Some (alike t (a.0).ty a.2).number

  read_global : (i : Inside) (t : Ty) (x : ℕ) → Knows i → some_is (λ v. are_alike t v.ty) (slice_get i.globals x) ≡ true
      → IsRead m f (code.Global (kind_of t) x)
  read_global i t x w h =
      let a = some_holds (λ (v : typed.Var). are_alike t v.ty) (slice_get i.globals x) h in
      let b = w.global x a.0 a.1 in
      (b.0, b.1, b.2 ∙ (alike t (a.0).ty a.2).number)

  -- A place of a type, of which the code reads and writes the variable.
  pub record ProperPlace (t : Ty) (n : tree.PlaceNode) : Type 0 where
    pub read : IsRead m f (spot_at t n)
    pub kind : spot_kind (spot_at t n) ≡ kind_of t

  pub at_proper : (i : Inside) (p : typed.Place) (P : Term → Type 0) (made : tree.Place → Term) → Knows i → part.is_place i p ≡ true
      → ((n : tree.PlaceNode) → ProperPlace (type_at p) n → P (made (tree.At (type_at p) n))) → P (at_place (place_of p) made)
  at_proper i (At t (typed.Local x)) P made w h u = u (tree.Local x) (record { read = read_local i t x w h; kind = refl })
  at_proper i (At t (typed.Global x)) P made w h u = u (tree.Global x) (record { read = read_global i t x w h; kind = refl })
  at_proper i (At t _) P made w h u = absurd (false≢true h)

  -- ---- trees

  -- A tree as a part of others, and as a statement.
  pub record ProperTerm (k : Kind) (a : Term) : Type 0 where
    pub kind : kind_in a ≡ k
    pub part : ProperPart m f k (part_of a)
    pub effects : (cs : List Callee) → Plain m f cs (effects a)

  term_as : (j k : Kind) (a : Term) → j ≡ k → ProperTerm j a → ProperTerm k a
  term_as j k a e h = subst (λ i. ProperTerm i a) e h

  -- what is no assignment leaves its value in a temporary
  valued : (k : Kind) (a : Term) → kind_in a ≡ k → effects a ≡ code_of 1 a (Temporary (kind_in a) 0) → ProperPart m f k (part_of a)
      → ProperTerm k a
  valued k a e c p = record {
    kind = e;
    part = p;
    effects = λ cs. subst (Plain m f cs) (sym c) (p.value cs 1 (Temporary (kind_in a) 0) tt e);
  }

  -- ---- leaves

  literal_part : (t : Ty) (z : _) → ProperPart m f (kind_of t) (part_of (Literal t (fitted t (Num z))))
  literal_part t z =
      let l = leaf (Literal t (fitted t (Num z))) in
      let h : (x : Operand) → l ≡ Some x → IsTaken m f (kind_of t) x = λ x e. subst (IsTaken m f (kind_of t)) (same_Some _ x e)
      (always (kind_of t) z) in
      plain_part m f (kind_of t) (Literal t (fitted t (Num z))) (λ d s. from_leaf l s) refl h (moved_leaf m f (kind_of t) l h)

  read_part : (t : Ty) (n : tree.PlaceNode) → ProperPlace t n → ProperPart m f (kind_of t) (part_of (Read (tree.At t n)))
  read_part t n w =
      let l = leaf (Read (tree.At t n)) in
      let h : (x : Operand) → l ≡ Some x → IsTaken m f (kind_of t) x = λ x e. subst (IsTaken m f (kind_of t)) (same_Some _ x e)
      (w.read, w.kind) in
      plain_part m f (kind_of t) (Read (tree.At t n)) (λ d s. from_leaf l s) refl h (moved_leaf m f (kind_of t) l h)

  -- ---- operations

  value_as : (j k : Kind) (value : ℕ → Spot → List Inst) → j ≡ k → ProperValue m f j value → ProperValue m f k value
  value_as j k value e h = subst (λ n. ProperValue m f n value) e h

  one_value : (o : Operation) (a : Term) (t u : Ty) → OfOne o t u → ProperPart m f (kind_of t) (part_of a)
      → ProperValue m f (kind_given o) (applied o (part_of a ∷ []))
  one_value o a t u w p = one_applied m f o (part_of a) w.one (part_as m f _ _ (part_of a) w.taken p)

  two_value : (o : Operation) (a b : Term) (t t' u : Ty) → OfTwo o t t' u → ProperPart m f (kind_of t) (part_of a)
      → ProperPart m f (kind_of t') (part_of b) → ProperValue m f (kind_given o) (applied o (part_of a ∷ part_of b ∷ []))
  two_value o a b t t' u w p q =
      two_applied m f o (part_of a) (part_of b) w.two (part_as m f _ _ (part_of a) w.left_taken p)
      (part_as m f _ _ (part_of b) w.right_taken q)

  one_part : (o : Operation) (a : Term) (t u : Ty) → OfOne o t u → ProperPart m f (kind_of t) (part_of a)
      → ProperPart m f (kind_of u) (part_of (Apply o (MoreTerms a NoTerms)))
  one_part o a t u w p =
      let v = one_value o a t u w p in
      part_as m f (kind_given o) (kind_of u) (part_of (Apply o (MoreTerms a NoTerms))) (sym w.given)
      (whole_part m f (kind_given o) (Apply o (MoreTerms a NoTerms)) (applied o (part_of a ∷ []))
      (compared o (part_of a ∷ []) (kind_given o) (applied o (part_of a ∷ []))) refl refl v
      (one_compared m f o (part_of a) (kind_given o) (applied o (part_of a ∷ [])) v))

  two_part : (o : Operation) (a b : Term) (t t' u : Ty) → OfTwo o t t' u → ProperPart m f (kind_of t) (part_of a)
      → ProperPart m f (kind_of t') (part_of b) → ProperPart m f (kind_of u) (part_of (Apply o (MoreTerms a (MoreTerms b NoTerms))))
  two_part o a b t t' u w p q =
      let ps = part_of a ∷ part_of b ∷ [] in
      let v = two_value o a b t t' u w p q in
      part_as m f (kind_given o) (kind_of u) (part_of (Apply o (MoreTerms a (MoreTerms b NoTerms)))) (sym w.given)
      (whole_part m f (kind_given o) (Apply o (MoreTerms a (MoreTerms b NoTerms))) (applied o ps)
      (compared o ps (kind_given o) (applied o ps)) refl refl v
      (two_compared m f o (part_of a) (part_of b) (kind_given o) (applied o ps) (part_as m f _ _ (part_of a) w.left_taken p)
      (part_as m f _ _ (part_of b) w.right_taken q) v))

  apply_part : (o : Operation) (es : typed.Exprs) (t : Ty) → gives o (types_of es) t ≡ true
      → ProperParts m f (kinds_of es) (parts_of (terms_of es)) → ProperPart m f (kind_of t) (part_of (Apply o (terms_of es)))
  apply_part o typed.NoExprs t h ps = absurd (of_none o t h)
  apply_part o (typed.MoreExprs a typed.NoExprs) t h ps = one_part o (term_of a) (type_of a) t (of_one o (type_of a) t h) ps.0
  apply_part o (typed.MoreExprs a (typed.MoreExprs b typed.NoExprs)) t h ps =
      two_part o (term_of a) (term_of b) (type_of a) (type_of b) t (of_two o (type_of a) (type_of b) t h) ps.0 ps.1.0
  apply_part o (typed.MoreExprs a (typed.MoreExprs b (typed.MoreExprs c es))) t h ps =
      absurd (of_more o (type_of a) (type_of b) (type_of c) (types_of es) t h)

  lazy_part : (x : Connective) (l r : Term) → ProperPart m f kind.Int (part_of l) → ProperPart m f kind.Int (part_of r)
      → ProperPart m f kind.Int (part_of (Lazy x l r))
  lazy_part x l r p q =
      let b = connecting m f x (part_of l) (part_of r) p.branches q.branches in
      whole_part m f kind.Int (Lazy x l r) (truth_of (connected x (part_of l) (part_of r))) (connected x (part_of l) (part_of r)) refl refl
      (truth_value m f (connected x (part_of l) (part_of r)) b) b

  -- ---- assignments

  store_term : (t : Ty) (n : tree.PlaceNode) (a : Term) → ProperPlace t n → ProperPart m f (kind_of t) (part_of a)
      → ProperTerm (kind_of t) (Store (tree.At t n) a)
  store_term t n a w p = record {
    kind = refl;
    part =
        plain_part m f (kind_of t) (Store (tree.At t n) a) (assigned_first (part_of a) (spot_at t n)) refl (λ x e. absurd (none-some x e))
        (assigning m f (kind_of t) (part_of a) (spot_at t n) p w.read w.kind);
    effects = λ cs. p.value cs 0 (spot_at t n) (written m f cs (spot_at t n) w.read) w.kind;
  }

  change_term : (o : Operation) (g : Which) (t : Ty) (n : tree.PlaceNode) (ts : Terms) → ProperPlace t n → kind_of t ≡ kind_given o
      → ProperValue m f (kind_given o) (applied o (parts_of ts))
      → ProperValue m f (kind_of t) (changed g o (kind_of t) (spot_at t n) (parts_of ts))
      → ProperTerm (kind_of t) (Change o g (tree.At t n) ts)
  change_term o g t n ts w e v c = record {
    kind = refl;
    part =
        plain_part m f (kind_of t) (Change o g (tree.At t n) ts) (changed g o (kind_of t) (spot_at t n) (parts_of ts)) refl
        (λ x k. absurd (none-some x k)) c;
    effects = λ cs. v cs 0 (spot_at t n) (written m f cs (spot_at t n) w.read) (w.kind ∙ e);
  }

  update_term : (o : Operation) (t u : Ty) (n : tree.PlaceNode) (a : Term) → ProperPlace t n → OfTwo o t u t
      → ProperPart m f (kind_of u) (part_of a)
      → ProperTerm (kind_of t) (Change o given.New (tree.At t n) (MoreTerms (Read (tree.At t n)) (MoreTerms a NoTerms)))
  update_term o t u n a w i p =
      let r = Read (tree.At t n) in
      let ps = part_of r ∷ part_of a ∷ [] in
      let v = two_value o r a t u t i (read_part t n w) p in
      change_term o given.New t n (MoreTerms r (MoreTerms a NoTerms)) w i.given v
      (new_changed m f o (kind_of t) (spot_at t n) ps (value_as (kind_given o) (kind_of t) (applied o ps) (sym i.given) v) w.read w.kind)

  step_term : (o : Operation) (g : Which) (t : Ty) (n : tree.PlaceNode) → ProperPlace t n → OfOne o t t
      → ProperTerm (kind_of t) (Change o g (tree.At t n) (MoreTerms (Read (tree.At t n)) NoTerms))
  step_term o given.Old t n w i =
      let r = Read (tree.At t n) in
      let v = one_value o r t t i (read_part t n w) in
      change_term o given.Old t n (MoreTerms r NoTerms) w i.given v
      (old_changed m f o (kind_of t) (spot_at t n) (part_of r ∷ []) i.one i.taken i.given w.read w.kind)
  step_term o given.New t n w i =
      let r = Read (tree.At t n) in
      let v = one_value o r t t i (read_part t n w) in
      change_term o given.New t n (MoreTerms r NoTerms) w i.given v
      (new_changed m f o (kind_of t) (spot_at t n) (part_of r ∷ [])
      (value_as (kind_given o) (kind_of t) (applied o (part_of r ∷ [])) (sym i.given) v) w.read w.kind)

  -- ---- calls and prints

  many_exprs : (es : typed.Exprs) → length (types_of es) ≡ count (terms_of es)
  many_exprs typed.NoExprs = refl
  many_exprs (typed.MoreExprs e es) = ap suc (many_exprs es)

  pub many_parts : (ks : List Kind) (ts : Terms) → ProperParts m f ks (parts_of ts) → length ks ≡ count ts
  many_parts [] NoTerms h = refl
  many_parts [] (MoreTerms t ts) h = absurd h
  many_parts (k ∷ ks) NoTerms h = absurd h
  many_parts (k ∷ ks) (MoreTerms t ts) h = ap suc (many_parts ks ts h.1)

  call_term : (i : Inside) (g : ℕ) (es : typed.Exprs) (t : Ty) → Knows i → part.calls i g (types_of es) t ≡ true
      → ProperParts m f (kinds_of es) (parts_of (terms_of es)) → ProperTerm (kind_of t) (Call t g (terms_of es))
  call_term i g es t w h ps =
      let ts = types_of es in
      let a = some_holds (λ (x : typed.Function). part.all_alike ts x.of.args && part.answers_alike t x.of.answer)
      (slice_get i.functions g) h in
      let F : typed.Function = a.0 in
      let k = w.callee g F a.1 in
      let b : part.all_alike ts F.of.args ≡ true = left _ _ a.2 in
      let c : Callable m f g (kind_of t) (count (terms_of es)) = record {
        function = function_code F;
        there = k.0;
        answer = answer_kinds t F.of.answer (right _ _ a.2);
        takes = arguments_many ts F.of.args b ∙ many_exprs es;
        has = arguments_there F.of.args F.variables k.1;
        numbers = arguments_numbers ts F.of.args F.variables b k.1;
      } in
      valued (kind_of t) (Call t g (terms_of es)) refl refl
      (plain_part m f (kind_of t) (Call t g (terms_of es))
      (λ d s. made_ready (Begin g) (parts_of (terms_of es)) d ++ code.Call (kind_of t) g (count (terms_of es)) s ∷ [])
      refl (λ x e. absurd (none-some x e))
      (calling m f g (kind_of t) (count (terms_of es)) (kinds_of es) (parts_of (terms_of es)) c ps
      (λ cs. given_first m f (Calls g ∷ cs) (kinds_of es)
      (λ j n e. ap (λ o. slice_get (parameters_of o) j) k.0 ∙ arguments_taken ts F.of.args F.variables b k.1 j n e))))

  -- the number that stands for a hole: a byte is made an int
  hole_part : (h : Hole) (t : Ty) (a : Term) → some_is (λ k. is_of k t) (part.hole_kind h) ≡ true → ProperPart m f (kind_of t) (part_of a)
      → (k : Kind) × (hole_kinds h ≡ k ∷ []) × ProperPart m f k (part_of (as_printed t a))
  hole_part (hole.Decimal kind.Byte) Byte a h p =
      let c = operation.Convert kind.Byte kind.Int in
      let i : OfOne c Byte Int = record { one = tt; taken = refl; given = refl } in
      (kind.Int, refl, one_part c a Byte Int i p)
  hole_part (hole.Decimal kind.Int) Int a h p = (kind.Int, refl, p)
  hole_part (hole.Decimal kind.Big) Big a h p = (kind.Big, refl, p)
  hole_part hole.Character Int a h p = (kind.Int, refl, p)
  hole_part hole.Hexadecimal Int a h p = (kind.Int, refl, p)
  hole_part _ _ a h p = absurd (false≢true h)

  pub printed_parts : (ps : List Written) (es : typed.Exprs) → part.are_printed ps (types_of es) ≡ true
      → ProperParts m f (kinds_of es) (parts_of (terms_of es)) → ProperParts m f (printed_kinds ps) (parts_of (printed_of es))
  printed_parts [] typed.NoExprs h p = tt
  printed_parts [] (typed.MoreExprs e es) h p = absurd (false≢true h)
  printed_parts (piece.Chars s ∷ ps) es h p = printed_parts ps es h p
  printed_parts (piece.Hole x ∷ ps) typed.NoExprs h p = absurd (false≢true h)
  printed_parts (piece.Hole x ∷ ps) (typed.MoreExprs (Of t n) es) h p =
      let a = hole_part x t (node_of t n) (left _ (part.are_printed ps (types_of es)) h) p.0 in
      let r : ProperParts m f (a.0 ∷ printed_kinds ps) (parts_of (printed_of (typed.MoreExprs (Of t n) es))) =
      (a.2, printed_parts ps es (right _ _ h) p.1) in
      subst (λ ks. ProperParts m f (ks ++ printed_kinds ps) (parts_of (printed_of (typed.MoreExprs (Of t n) es)))) (sym a.1) r

  hole_tells : (h : Hole) (t : Ty) → some_is (λ k. is_of k t) (part.hole_kind h) ≡ true → TellsNumber h
  hole_tells (hole.Decimal k) t e = tt
  hole_tells hole.Character t e = tt
  hole_tells hole.Hexadecimal t e = tt
  hole_tells _ t e = absurd (false≢true e)

  all_tell : (ps : List Written) (ts : List Ty) → part.are_printed ps ts ≡ true → AllTellNumbers ps
  all_tell [] ts h = tt
  all_tell (piece.Chars s ∷ ps) ts h = all_tell ps ts h
  all_tell (piece.Hole x ∷ ps) [] h = absurd (false≢true h)
  all_tell (piece.Hole x ∷ ps) (t ∷ ts) h = (hole_tells x t (left _ (part.are_printed ps ts) h), all_tell ps ts (right _ _ h))

  print_term : (w : Printed) (file : typed.Optional) (ps : List Written) (ts : Terms)
      → (part.is_print w && part.is_absent file) ≡ true → AllTellNumbers ps → ProperParts m f (printed_kinds ps) (parts_of ts)
      → ProperTerm kind.Int (printing w file ps ts)
  print_term printed.Print typed.Absent ps ts h n p =
      valued kind.Int (Print ps ts) refl refl
      (plain_part m f kind.Int (Print ps ts) (λ d s. made_ready (Format ps) (parts_of ts) d ++ answered (count ts) d s) refl
      (λ x e. absurd (none-some x e))
      (prints m f ps (count ts) (parts_of ts) n (many_parts (printed_kinds ps) ts p) p))
  print_term printed.Print (typed.Present e) ps ts h n p = absurd (false≢true h)
  print_term _ file ps ts h n p = absurd (false≢true h)

  -- ---- expressions

  assign_term : (i : Inside) (p : typed.Pattern) (u t : Ty) (a : Term) → Knows i → part.assigns i p u t ≡ true
      → ProperPart m f (kind_of u) (part_of a) → ProperTerm (kind_of t) (at_place (place_to p) (λ q. Store q a))
  assign_term i (typed.ToPlace q) u t a w h p =
      let y : kind_of (type_at q) ≡ kind_of t = alike_kinds t (type_at q) (right _ _ h) in
      let x : kind_of (type_at q) ≡ kind_of u = alike_kinds u (type_at q) (right _ _ (left _ _ h)) in
      at_proper i q (ProperTerm (kind_of t)) (λ r. Store r a) w (left _ _ (left _ _ h))
      (λ n z. term_as (kind_of (type_at q)) (kind_of t) (Store (tree.At (type_at q) n) a) y
      (store_term (type_at q) n a z (part_as m f (kind_of u) (kind_of (type_at q)) (part_of a) (sym x) p)))
  assign_term i _ u t a w h p = absurd (false≢true h)

  mutual
    pub expr_proper : (i : Inside) → Knows i → (e : typed.Expr) → part.is_expr i e ≡ true → ProperTerm (kind_of (type_of e)) (term_of e)
    expr_proper i w (Of t n) h = node_proper i w t n h

    node_proper : (i : Inside) → Knows i → (t : Ty) (n : typed.Node) → part.is_node i t n ≡ true → ProperTerm (kind_of t) (node_of t n)
    node_proper i w t (typed.Number n) h = valued (kind_of t) (Literal t (fitted t (Num n))) refl refl (literal_part t n)
    node_proper i w t (typed.Read p) h =
        let y : kind_of (type_at p) ≡ kind_of t = alike_kinds t (type_at p) (right _ _ h) in
        at_proper i p (ProperTerm (kind_of t)) Read w (left _ _ h)
        (λ n z. term_as (kind_of (type_at p)) (kind_of t) (Read (tree.At (type_at p) n)) y
        (valued (kind_of (type_at p)) (Read (tree.At (type_at p) n)) refl refl (read_part (type_at p) n z)))
    node_proper i w t (typed.Apply o es) h =
        valued (kind_of t) (Apply o (terms_of es)) (sym (has_kind (kind_given o) t (right _ _ (right _ _ h))).kind) refl
        (apply_part o es t (right _ _ h) (exprs_proper i w es (left _ _ h)))
    node_proper i w t (typed.Lazy c l r) h =
        let a = right (part.is_expr i l && part.is_expr i r) _ h in
        let kl : kind_of (type_of l) ≡ kind.Int = (has_kind kind.Int (type_of l) (left _ _ a)).kind in
        let kr : kind_of (type_of r) ≡ kind.Int = (has_kind kind.Int (type_of r) (left _ _ (right _ _ a))).kind in
        let kt : kind_of t ≡ kind.Int = (has_kind kind.Int t (left _ _ (right _ _ (right _ _ a)))).kind in
        let x = expr_proper i w l (left _ _ (left _ _ h)) in
        let y = expr_proper i w r (right _ _ (left _ _ h)) in
        term_as kind.Int (kind_of t) (Lazy c (term_of l) (term_of r)) (sym kt)
        (valued kind.Int (Lazy c (term_of l) (term_of r)) refl refl
        (lazy_part c (term_of l) (term_of r) (part_as m f _ _ (part_of (term_of l)) kl x.part)
        (part_as m f _ _ (part_of (term_of r)) kr y.part)))
    node_proper i w t (typed.Assign p e) h =
        assign_term i p (type_of e) t (term_of e) w (right _ _ h) (expr_proper i w e (left _ _ h)).part
    node_proper i w t (typed.Update o p e) h =
        let u = type_at p in
        let y : kind_of u ≡ kind_of t = alike_kinds t u (right _ _ h) in
        let x = expr_proper i w e (right _ _ (left _ _ (left _ _ h))) in
        at_proper i p (ProperTerm (kind_of t)) (λ q. Change o given.New q (MoreTerms (Read q) (MoreTerms (term_of e) NoTerms))) w
        (left _ _ (left _ _ (left _ _ h)))
        (λ n z. term_as (kind_of u) (kind_of t) _ y
        (update_term o u (type_of e) n (term_of e) z (of_two o u (type_of e) u (right _ _ (left _ _ h))) x.part))
    node_proper i w t (typed.Step o g p) h =
        let u = type_at p in
        let y : kind_of u ≡ kind_of t = alike_kinds t u (right _ _ h) in
        at_proper i p (ProperTerm (kind_of t)) (λ q. Change o g q (MoreTerms (Read q) NoTerms)) w (left _ _ (left _ _ h))
        (λ n z. term_as (kind_of u) (kind_of t) _ y (step_term o g u n z (of_one o u u (right _ _ (left _ _ h)))))
    node_proper i w t (typed.Call g es) h = call_term i g es t w (right _ _ h) (exprs_proper i w es (left _ _ h))
    node_proper i w t (typed.Print v x file ps es) h =
        let k : kind_of t ≡ kind.Int = (has_kind kind.Int t (left _ _ (right _ _ h))).kind in
        term_as kind.Int (kind_of t) (printing v file ps (printed_of es)) (sym k)
        (print_term v file ps (printed_of es) (left _ _ (left _ _ (left _ _ (left _ _ h))))
        (all_tell ps (types_of es) (right _ _ (left _ _ h)))
        (printed_parts ps es (right _ _ (left _ _ h)) (exprs_proper i w es (right _ _ (left _ _ (left _ _ h))))))
    node_proper i w t _ h = absurd (false≢true h)

    pub exprs_proper : (i : Inside) → Knows i → (es : typed.Exprs) → part.are_exprs i es ≡ true
        → ProperParts m f (kinds_of es) (parts_of (terms_of es))
    exprs_proper i w typed.NoExprs h = tt
    exprs_proper i w (typed.MoreExprs e es) h = ((expr_proper i w e (left _ _ h)).part, exprs_proper i w es (right _ _ h))
