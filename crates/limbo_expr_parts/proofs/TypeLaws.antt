-- The laws of the reader of types.
use Rattle.std.proofs.Common.{◌≡◌, ℕ, zero, suc, ◌+◌, ◌≤◌, true, ◌&&◌, List, [], ◌∷◌, length, Option, Some, None, Result, Ok, Err, refl, sym, ap, subst, ◌∙◌, arith}
use Rattle.std.specs.Prelude.{IfOk}
use Rattle.limbo_lexer.specs.declared.token.Kind.{Kind}
use Rattle.limbo_lexer.specs.declared.token.Kind.TheVariants as kind
use Rattle.limbo_lexer.specs.declared.token.Mark.{Mark}
use Rattle.limbo_lexer.specs.declared.token.Mark.TheVariants as mark
use Rattle.limbo_lexer.specs.declared.token.Key.{Key}
use Rattle.limbo_lexer.specs.declared.token.Key.TheVariants as key
use Rattle.limbo_tree.specs.Tokens.{◌▸◌, ◌▹◌}
use Rattle.limbo_tree.specs.Types.{Qual, Ty, Tys, Byte, Int, Big, String, ArrayOf, ListOf, ChanOf, RefTo, Named, Tuple, NoTys, MoreTys, spell_part, spell_member, spell_qual, spell_ty, spell_more_tys, ty_nesting, tys_nesting, are_several, is_ty, are_all_tys}
use Rattle.limbo_tree.specs.View.{tys_of}
use Rattle.limbo_reading.specs.declared.fault.Fault.{Fault}
use Rattle.limbo_reading.specs.Reading.{Reader, after_mark, after_key, expect_mark, expect_key, expect_name}
use Rattle.limbo_reading.specs.Lists.{items}
use Rattle.limbo_reading.proofs.Steps.{after_mark_is, after_key_is, took_bind, took_choose, took_if, took_mark, took_key, took_name, Deepens, deepens_same, deepens_bind, deepens_choose, Keeps, keeps_less, keeps_bind, keeps_rest, keeps_choose, keeps_if, keeps_mark, keeps_key, keeps_name, after_mark_length, after_key_length}
use Rattle.limbo_reading.proofs.Lists.{spell_others, Each, Took, TookItems, items_again, items_took, items_deepens, items_keeps}
use Rattle.limbo_expr_parts.specs.Front.{front}
use Rattle.limbo_expr_parts.specs.Types.{part_at, qual_at, element_at, of_at, types_at, tuple_at, simple_of, named_at, ty_above, ty_at}
use Rattle.limbo_expr_parts.specs.Strength.{Stops, begins_ty}
use Rattle.limbo_expr_parts.proofs.Steps.{some_same, and_true, front_is, front_length, stops_mark, keeps_in}

-- ---- lists of types

abbrev pub tys_list : Tys → List Ty
tys_list NoTys = []
tys_list (MoreTys t tys) = t ∷ tys_list tys

tys_back : (tys : Tys) → tys_of (tys_list tys) ≡ tys
tys_back NoTys = refl
tys_back (MoreTys t tys) = ap (MoreTys t) (tys_back tys)

spell_tys_list : (tys : Tys) (ts : List Kind) → spell_more_tys tys ts ≡ spell_others spell_ty (kind.Mark mark.Comma) (tys_list tys) ts
spell_tys_list NoTys ts = refl
spell_tys_list (MoreTys t tys) ts = ap (λ (v : List Kind). mark.Comma ▸ spell_ty t v) (spell_tys_list tys ts)

spell_tys_of : (ys : List Ty) (ts : List Kind) → spell_others spell_ty (kind.Mark mark.Comma) ys ts ≡ spell_more_tys (tys_of ys) ts
spell_tys_of [] ts = refl
spell_tys_of (t ∷ ys) ts = ap (λ (v : List Kind). mark.Comma ▸ spell_ty t v) (spell_tys_of ys ts)

-- ---- how long a spelling is, and how it begins

part_grows : (p : Option (List ℕ)) (ts : List Kind) → length ts ≤ length (spell_part p ts)
part_grows None ts = omega arith
part_grows (Some n) ts = omega arith

member_grows : (p : Option (List ℕ)) (ts : List Kind) → length ts ≤ length (spell_member p ts)
member_grows None ts = omega arith
member_grows (Some n) ts = omega arith

qual_grows : (q : Qual) (ts : List Kind) → 1 + length ts ≤ length (spell_qual q ts)
qual_grows q ts = omega (arith, member_grows q.member (spell_part q.part ts), part_grows q.part ts)

mutual
  pub spell_ty_grows : (t : Ty) (ts : List Kind) → ty_nesting t + length ts ≤ length (spell_ty t ts)
  spell_ty_grows Byte ts = omega arith
  spell_ty_grows Int ts = omega arith
  spell_ty_grows Big ts = omega arith
  spell_ty_grows String ts = omega arith
  spell_ty_grows (ArrayOf t) ts = omega (arith, spell_ty_grows t ts)
  spell_ty_grows (ListOf t) ts = omega (arith, spell_ty_grows t ts)
  spell_ty_grows (ChanOf t) ts = omega (arith, spell_ty_grows t ts)
  spell_ty_grows (RefTo q) ts = omega (arith, qual_grows q ts)
  spell_ty_grows (Named q) ts = omega (arith, qual_grows q ts)
  spell_ty_grows (Tuple NoTys) ts = omega arith
  spell_ty_grows (Tuple (MoreTys t tys)) ts = omega (arith, spell_ty_grows t (spell_more_tys tys (mark.CloseParen ▸ ts)), tys_grow tys (mark.CloseParen ▸ ts))

  tys_grow : (tys : Tys) (ts : List Kind) → tys_nesting tys + length ts ≤ length (spell_more_tys tys ts)
  tys_grow NoTys ts = omega arith
  tys_grow (MoreTys t tys) ts = omega (arith, spell_ty_grows t (spell_more_tys tys ts), tys_grow tys ts)

pub ty_grows : (t : Ty) (ts : List Kind) → length ts ≤ length (spell_ty t ts)
ty_grows t ts = omega (arith, spell_ty_grows t ts)

pub ty_nesting_pos : (t : Ty) → 1 ≤ ty_nesting t
ty_nesting_pos Byte = omega arith
ty_nesting_pos Int = omega arith
ty_nesting_pos Big = omega arith
ty_nesting_pos String = omega arith
ty_nesting_pos (ArrayOf t) = omega arith
ty_nesting_pos (ListOf t) = omega arith
ty_nesting_pos (ChanOf t) = omega arith
ty_nesting_pos (RefTo q) = omega arith
ty_nesting_pos (Named q) = omega arith
ty_nesting_pos (Tuple tys) = omega arith

pub spell_ty_begins : (t : Ty) (ts : List Kind) → is_ty t ≡ true → begins_ty (spell_ty t ts) ≡ true
spell_ty_begins Byte ts g = refl
spell_ty_begins Int ts g = refl
spell_ty_begins Big ts g = refl
spell_ty_begins String ts g = refl
spell_ty_begins (ArrayOf t) ts g = refl
spell_ty_begins (ListOf t) ts g = refl
spell_ty_begins (ChanOf t) ts g = refl
spell_ty_begins (RefTo q) ts g = refl
spell_ty_begins (Named q) ts g = refl
spell_ty_begins (Tuple tys) ts g = refl

-- ---- what is spelled is read

qual_again : (n : List ℕ) (m p : Option (List ℕ)) (ts : List Kind) → Stops 0 ts → qual_at (kind.Name n ∷ spell_member m (spell_part p ts)) ≡ Ok (record { first = n; member = m; part = p }, ts)
unfolding qual_at part_at
qual_again n None None ts s = rw (stops_mark mark.Arrow 0 ts (omega arith) s, stops_mark mark.Dot 0 ts (omega arith) s) refl
qual_again n None (Some d) ts s = refl
qual_again n (Some a) None ts s = rw (stops_mark mark.Dot 0 ts (omega arith) s) refl
qual_again n (Some a) (Some d) ts s = refl

-- r reads each type of nesting up to b
abbrev Complete : Reader Ty → ℕ → Type 0
Complete r b = (t : Ty) (ts : List Kind) → is_ty t ≡ true → ty_nesting t ≤ b → Stops 0 ts → r (spell_ty t ts) ≡ Ok (t, ts)

abbrev Good : ℕ → Ty → Type 0
Good b t = (is_ty t ≡ true) × (ty_nesting t ≤ b)

each_good : (b : ℕ) (tys : Tys) → are_all_tys tys ≡ true → tys_nesting tys ≤ b → Each (Good b) (tys_list tys)
each_good b NoTys g d = tt
each_good b (MoreTys t tys) g d =
    let p = and_true (is_ty t) (are_all_tys tys) g in
    ((p.0, omega arith), each_good b tys p.1 (omega arith))

more_again : (r : Reader Ty) (b : ℕ) → Complete r b → (t : Ty) (tys : Tys) (ts : List Kind) → Good b t → are_all_tys tys ≡ true → tys_nesting tys ≤ b
    → items r (after_mark mark.Comma) (spell_ty t (spell_more_tys tys (mark.CloseParen ▸ ts))) ≡ Ok (t ∷ tys_list tys, mark.CloseParen ▸ ts)
more_again r b c t tys ts g gs d =
    ap (λ (v : List Kind). items r (after_mark mark.Comma) (spell_ty t v)) (spell_tys_list tys (mark.CloseParen ▸ ts))
    ∙ items_again r (after_mark mark.Comma) spell_ty (kind.Mark mark.Comma) (Good b) (Stops 0) (λ x us h. refl) (λ us. omega arith) ty_grows (λ x us h f. c x us h.0 h.1 f) t (tys_list tys) (mark.CloseParen ▸ ts) g (each_good b tys gs d) (omega arith) refl

tuple_again : (r : Reader Ty) (b : ℕ) → Complete r b → (t u : Ty) (tys : Tys) (ts : List Kind) → Good b t → Good b u → are_all_tys tys ≡ true → tys_nesting tys ≤ b
    → tuple_at r (spell_ty t (mark.Comma ▸ spell_ty u (spell_more_tys tys (mark.CloseParen ▸ ts)))) ≡ Ok (Tuple (MoreTys t (MoreTys u tys)), ts)
unfolding tuple_at types_at
tuple_again r b c t u tys ts g h gs d =
    rw (more_again r b c t (MoreTys u tys) ts g (rw (h.0, gs) refl) (omega (arith, h.1)), tys_back tys) refl

above_again : (r : Reader Ty) (b : ℕ) → Complete r b → (t : Ty) (ts : List Kind) → is_ty t ≡ true → ty_nesting t ≤ suc b → Stops 0 ts → ty_above r (spell_ty t ts) ≡ Ok (t, ts)
unfolding ty_above named_at element_at
above_again r b c Byte ts g d s = refl
above_again r b c Int ts g d s = refl
above_again r b c Big ts g d s = refl
above_again r b c String ts g d s = refl
above_again r b c (ArrayOf t) ts g d s = rw (c t ts g (omega arith) s) refl
above_again r b c (ListOf t) ts g d s = rw (c t ts g (omega arith) s) refl
above_again r b c (ChanOf t) ts g d s = rw (c t ts g (omega arith) s) refl
above_again r b c (RefTo q) ts g d s = rw (qual_again q.first q.member q.part ts s) refl
above_again r b c (Named q) ts g d s = rw (qual_again q.first q.member q.part ts s) refl
above_again r b c (Tuple NoTys) ts g d s = absurd cc
above_again r b c (Tuple (MoreTys t NoTys)) ts g d s = absurd cc
above_again r b c (Tuple (MoreTys t (MoreTys u tys))) ts g d s =
    let p = and_true (is_ty t) (is_ty u && are_all_tys tys) g in
    let q = and_true (is_ty u) (are_all_tys tys) p.1 in
    tuple_again r b c t u tys ts (p.0, omega arith) (q.0, omega arith) q.1 (omega arith)

pub ty_again : (b : ℕ) (t : Ty) (ts : List Kind) → is_ty t ≡ true → ty_nesting t ≤ b → Stops 0 ts → ty_at b (spell_ty t ts) ≡ Ok (t, ts)
unfolding ty_at
ty_again zero t ts g d s = absurd (omega (arith, ty_nesting_pos t))
ty_again (suc b) t ts g d s = above_again (ty_at b) b (ty_again b) t ts g d s

-- ---- what is read is spelled so

dot_took : (ts : List Kind) → IfOk (part_at mark.Dot ts) (λ x. ts ≡ spell_part x.0 x.1)
unfolding part_at
dot_took ts =
    took_choose (after_mark mark.Dot ts) _ _ _ (λ e. refl) λ us e.
    took_bind (expect_name us) _ _ _ (took_name us) λ n q.
    after_mark_is mark.Dot ts us e ∙ ap (λ (v : List Kind). mark.Dot ▸ v) q

arrow_took : (ts : List Kind) → IfOk (part_at mark.Arrow ts) (λ x. ts ≡ spell_member x.0 x.1)
unfolding part_at
arrow_took ts =
    took_choose (after_mark mark.Arrow ts) _ _ _ (λ e. refl) λ us e.
    took_bind (expect_name us) _ _ _ (took_name us) λ n q.
    after_mark_is mark.Arrow ts us e ∙ ap (λ (v : List Kind). mark.Arrow ▸ v) q

qual_took : (ts : List Kind) → IfOk (qual_at ts) (λ x. ts ≡ spell_qual x.0 x.1)
unfolding qual_at
qual_took ts =
    took_bind (expect_name ts) _ _ _ (took_name ts) λ n p.
    took_bind (part_at mark.Arrow n.1) _ _ _ (arrow_took n.1) λ m q.
    took_bind (part_at mark.Dot m.1) _ _ _ (dot_took m.1) λ d h.
    p ∙ ap (λ (v : List Kind). kind.Name n.0 ∷ v) (q ∙ ap (spell_member m.0) h)

abbrev Sound : Reader Ty → ℕ → Type 0
Sound r b = (ts : List Kind) → IfOk (r ts) (Took spell_ty (Good b) ts)

all_good : (b : ℕ) (ys : List Ty) → Each (Good b) ys → (are_all_tys (tys_of ys) ≡ true) × (tys_nesting (tys_of ys) ≤ b)
all_good b [] g = (refl, omega arith)
all_good b (t ∷ ys) g = let h = all_good b ys g.1 in (rw (g.0.0, h.0) refl, omega (arith, g.0.1, h.1))

types_took : (r : Reader Ty) (b : ℕ) → Sound r b → (ts : List Kind) → IfOk (types_at r ts) (TookItems spell_ty (kind.Mark mark.Comma) (Good b) (after_mark mark.Comma) ts)
unfolding types_at
types_took r b s ts = items_took r (after_mark mark.Comma) spell_ty (kind.Mark mark.Comma) (Good b) (after_mark_is mark.Comma) s ts

tuple_took : (r : Reader Ty) (b : ℕ) → Sound r b → (ts : List Kind) → IfOk (tuple_at r ts) (Took spell_ty (Good (suc b)) (mark.OpenParen ▸ ts))
unfolding tuple_at
tuple_took r b s ts =
    took_bind (types_at r ts) _ _ _ (types_took r b s ts) λ xs q.
    took_if (are_several (tys_of xs.0)) _ _ _
    (λ several. took_bind (expect_mark mark.CloseParen xs.1) _ _ _ (took_mark mark.CloseParen xs.1) λ vs m.
    let h = all_good b q.more q.stands.1 in
    let two = rw q.all at several in
    rw q.all (record {
      parts = ap (λ (v : List Kind). mark.OpenParen ▸ v) (q.parts ∙ ap (spell_ty q.first) (spell_tys_of q.more xs.1 ∙ ap (spell_more_tys (tys_of q.more)) m));
      stands = (rw (two, q.stands.0.0, h.0) refl, omega (arith, q.stands.0.1, h.1));
    }))
    λ few. tt

simple_is : (k : Kind) (t : Ty) (ts : List Kind) → simple_of k ≡ Some t → Took spell_ty (Good 1) (k ∷ ts) (t, ts)
simple_is (kind.Key key.Byte) t ts e = subst (λ (y : Ty). Took spell_ty (Good 1) (key.Byte ▹ ts) (y, ts)) (some_same Byte t e) (record { parts = refl; stands = (refl, omega arith) })
simple_is (kind.Key key.Int) t ts e = subst (λ (y : Ty). Took spell_ty (Good 1) (key.Int ▹ ts) (y, ts)) (some_same Int t e) (record { parts = refl; stands = (refl, omega arith) })
simple_is (kind.Key key.Big) t ts e = subst (λ (y : Ty). Took spell_ty (Good 1) (key.Big ▹ ts) (y, ts)) (some_same Big t e) (record { parts = refl; stands = (refl, omega arith) })
simple_is (kind.Key key.String) t ts e = subst (λ (y : Ty). Took spell_ty (Good 1) (key.String ▹ ts) (y, ts)) (some_same String t e) (record { parts = refl; stands = (refl, omega arith) })
simple_is (kind.Key _) t ts e = absurd cc
simple_is _ t ts e = absurd cc

simple_took : (b : ℕ) (ts : List Kind) (x : Ty × List Kind) → front simple_of ts ≡ Some x → Took spell_ty (Good (suc b)) ts x
simple_took b ts x e =
    let f = front_is simple_of ts x e in
    let t = simple_is f.first x.0 x.1 f.stands in
    record { parts = f.parts ∙ t.parts; stands = (t.stands.0, omega (arith, t.stands.1)) }

element_took : (r : Reader Ty) (b : ℕ) → Sound r b → (ts : List Kind) → IfOk (element_at r ts) (λ t. (ts ≡ key.Of ▹ spell_ty t.0 t.1) × Good b t.0)
unfolding element_at
element_took r b s ts =
    took_bind (expect_key key.Of ts) _ _ _ (took_key key.Of ts) λ us p.
    more (r us) us p (s us)
  where
    more : (y : Result (Ty × List Kind) Fault) (us : List Kind) → ts ≡ key.Of ▹ us → IfOk y (Took spell_ty (Good b) us) → IfOk y (λ t. (ts ≡ key.Of ▹ spell_ty t.0 t.1) × Good b t.0)
    more (Ok x) us p q = (p ∙ ap (λ (v : List Kind). key.Of ▹ v) q.parts, q.stands)
    more (Err f) us p q = tt

of_took : (r : Reader Ty) (b : ℕ) → Sound r b → (make : Ty → Ty) (k : Key) (ts : List Kind) → ((t : Ty) (us : List Kind) → spell_ty (make t) us ≡ k ▹ key.Of ▹ spell_ty t us) → ((t : Ty) → Good b t → Good (suc b) (make t))
    → IfOk (of_at r make ts) (Took spell_ty (Good (suc b)) (k ▹ ts))
of_took r b s make k ts spells good =
    took_bind (element_at r ts) _ _ _ (element_took r b s ts) λ t q.
    record { parts = ap (λ (v : List Kind). k ▹ v) q.0 ∙ sym (spells t.0 t.1); stands = good t.0 q.1 }

named_took : (b : ℕ) (ts : List Kind) → IfOk (named_at ts) (Took spell_ty (Good (suc b)) ts)
unfolding named_at
named_took b ts =
    took_choose (after_key key.Ref ts) _ _ _
    (λ e. took_bind (qual_at ts) _ _ _ (qual_took ts) λ q p. record { parts = p; stands = (refl, omega arith) })
    λ us e. took_bind (qual_at us) _ _ _ (qual_took us) λ q p. record { parts = after_key_is key.Ref ts us e ∙ ap (λ (v : List Kind). key.Ref ▹ v) p; stands = (refl, omega arith) }

-- from behind the first token
pub behind : {A : Type 0} (r : Result A Fault) (P : List Kind → A → Type 0) (ts us : List Kind) → ts ≡ us → IfOk r (P us) → IfOk r (P ts)
behind r P ts us e h = subst (λ (v : List Kind). IfOk r (P v)) (sym e) h

above_took : (r : Reader Ty) (b : ℕ) → Sound r b → Sound (ty_above r) (suc b)
unfolding ty_above
above_took r b s ts =
    took_choose (front simple_of ts) _ _ _ (λ n0.
    took_choose (after_key key.Array ts) _ _ _ (λ n1.
    took_choose (after_key key.List ts) _ _ _ (λ n2.
    took_choose (after_key key.Chan ts) _ _ _ (λ n3.
    took_choose (after_mark mark.OpenParen ts) _ _ _ (λ n4. named_took b ts)
    λ us e. behind _ (Took spell_ty (Good (suc b))) ts _ (after_mark_is mark.OpenParen ts us e) (tuple_took r b s us))
    λ us e. behind _ (Took spell_ty (Good (suc b))) ts _ (after_key_is key.Chan ts us e) (of_took r b s ChanOf key.Chan us (λ t vs. refl) (λ t g. (g.0, omega (arith, g.1)))))
    λ us e. behind _ (Took spell_ty (Good (suc b))) ts _ (after_key_is key.List ts us e) (of_took r b s ListOf key.List us (λ t vs. refl) (λ t g. (g.0, omega (arith, g.1)))))
    λ us e. behind _ (Took spell_ty (Good (suc b))) ts _ (after_key_is key.Array ts us e) (of_took r b s ArrayOf key.Array us (λ t vs. refl) (λ t g. (g.0, omega (arith, g.1)))))
    λ x e. simple_took b ts x e

pub ty_took : (b : ℕ) (ts : List Kind) → IfOk (ty_at b ts) (Took spell_ty (λ t. (is_ty t ≡ true) × (ty_nesting t ≤ b)) ts)
unfolding ty_at
ty_took zero ts = tt
ty_took (suc b) ts = above_took (ty_at b) b (ty_took b) ts

-- ---- deeper

of_deepens : (r s : Reader Ty) → ((ts : List Kind) → Deepens (r ts) (s ts)) → (make : Ty → Ty) (ts : List Kind) → Deepens (of_at r make ts) (of_at s make ts)
unfolding element_at
of_deepens r s d make ts =
    deepens_bind (element_at r ts) (element_at s ts) _ _ (deepens_bind (expect_key key.Of ts) (expect_key key.Of ts) _ _ (deepens_same _) λ us. d us) λ t. refl

tuple_deepens : (r s : Reader Ty) → ((ts : List Kind) → Deepens (r ts) (s ts)) → (ts : List Kind) → Deepens (tuple_at r ts) (tuple_at s ts)
unfolding tuple_at types_at
tuple_deepens r s d ts =
    deepens_bind (types_at r ts) (types_at s ts) _ _ (items_deepens r s (after_mark mark.Comma) d ts) λ xs.
    deepens_same _

above_deepens : (r s : Reader Ty) → ((ts : List Kind) → Deepens (r ts) (s ts)) → (ts : List Kind) → Deepens (ty_above r ts) (ty_above s ts)
unfolding ty_above
above_deepens r s d ts =
    deepens_choose (front simple_of ts) _ _ _ _
    (deepens_choose (after_key key.Array ts) _ _ _ _
    (deepens_choose (after_key key.List ts) _ _ _ _
    (deepens_choose (after_key key.Chan ts) _ _ _ _
    (deepens_choose (after_mark mark.OpenParen ts) _ _ _ _ (deepens_same _)
    λ us. tuple_deepens r s d us)
    λ us. of_deepens r s d ChanOf us)
    λ us. of_deepens r s d ListOf us)
    λ us. of_deepens r s d ArrayOf us)
    λ t. refl

pub ty_deepens : (b c : ℕ) (ts : List Kind) → b ≤ c → Deepens (ty_at b ts) (ty_at c ts)
unfolding ty_at
ty_deepens zero c ts le = tt
ty_deepens (suc b) zero ts le = absurd (omega arith)
ty_deepens (suc b) (suc c) ts le = above_deepens (ty_at b) (ty_at c) (λ us. ty_deepens b c us (omega arith)) ts

-- ---- where a fault of depth stands

part_keeps : (b : ℕ) (m : Mark) (ts : List Kind) → Keeps b 0 (length ts) (part_at m ts)
unfolding part_at
part_keeps b m ts =
    keeps_choose b 0 (length ts) (after_mark m ts) _ _ (λ e. omega arith) λ us e.
    keeps_less b 0 0 (length us) (length ts) _
    (keeps_bind b 1 0 0 (length us) (expect_name us) _ (keeps_name b us) (λ n h. omega arith) (omega arith))
    (omega (arith, after_mark_length m ts us e)) (omega (arith, after_mark_length m ts us e))

qual_keeps : (b : ℕ) (ts : List Kind) → Keeps b 1 (length ts) (qual_at ts)
unfolding qual_at
qual_keeps b ts =
    keeps_bind b 1 0 1 (length ts) (expect_name ts) _ (keeps_name b ts) (λ n h.
    keeps_bind b 0 0 0 (length n.1) (part_at mark.Arrow n.1) _ (part_keeps b mark.Arrow n.1) (λ m g.
    keeps_bind b 0 0 0 (length m.1) (part_at mark.Dot m.1) _ (part_keeps b mark.Dot m.1) (λ p f. omega arith) (omega arith)) (omega arith)) (omega arith)

of_keeps : (b : ℕ) (r : Reader Ty) → ((ts : List Kind) → Keeps b 1 (length ts) (r ts)) → (make : Ty → Ty) (ts : List Kind) → Keeps b 0 (length ts) (of_at r make ts)
unfolding element_at
of_keeps b r k make ts =
    keeps_bind b 1 0 0 (length ts) (element_at r ts) _ (keeps_rest b 1 1 (length ts) (expect_key key.Of ts) _ (keeps_key key.Of ts) (λ us h. k us) (omega arith)) (λ t g. omega arith) (omega arith)

tuple_keeps : (b : ℕ) (r : Reader Ty) → ((ts : List Kind) → Keeps b 1 (length ts) (r ts)) → (ts : List Kind) → Keeps b 0 (length ts) (tuple_at r ts)
unfolding tuple_at types_at
tuple_keeps b r k ts =
    keeps_bind b 1 0 0 (length ts) (types_at r ts) _ (items_keeps b 1 r (after_mark mark.Comma) (after_mark_length mark.Comma) k (λ vs. keeps_less b 1 0 (length vs) (length vs) _ (k vs) (omega arith) (omega arith)) ts) (λ xs f.
    keeps_if b 0 (length xs.1) (are_several (tys_of xs.0)) _ _
    (keeps_rest b 0 0 (length xs.1) (expect_mark mark.CloseParen xs.1) _ (keeps_mark mark.CloseParen xs.1) (λ ws j. omega arith) (omega arith)) tt) (omega arith)

named_keeps : (b : ℕ) (ts : List Kind) → Keeps b 1 (length ts) (named_at ts)
unfolding named_at
named_keeps b ts =
    keeps_choose b 1 (length ts) (after_key key.Ref ts) _ _
    (λ e. keeps_bind b 1 0 1 (length ts) (qual_at ts) _ (qual_keeps b ts) (λ q h. omega arith) (omega arith))
    λ us e. keeps_less b 1 1 (length us) (length ts) _ (keeps_bind b 1 0 1 (length us) (qual_at us) _ (qual_keeps b us) (λ q h. omega arith) (omega arith)) (omega (arith, after_key_length key.Ref ts us e)) (omega (arith, after_key_length key.Ref ts us e))

above_keeps : (b : ℕ) (r : Reader Ty) → ((ts : List Kind) → Keeps b 1 (length ts) (r ts)) → (ts : List Kind) → Keeps (suc b) 1 (length ts) (ty_above r ts)
unfolding ty_above
above_keeps b r k ts =
    keeps_choose (suc b) 1 (length ts) (front simple_of ts) _ _ (λ n0.
    keeps_choose (suc b) 1 (length ts) (after_key key.Array ts) _ _ (λ n1.
    keeps_choose (suc b) 1 (length ts) (after_key key.List ts) _ _ (λ n2.
    keeps_choose (suc b) 1 (length ts) (after_key key.Chan ts) _ _ (λ n3.
    keeps_choose (suc b) 1 (length ts) (after_mark mark.OpenParen ts) _ _ (λ n4. named_keeps (suc b) ts)
    λ us e. keeps_in b 0 1 (length us) (length ts) _ (tuple_keeps b r k us) (omega (arith, after_mark_length mark.OpenParen ts us e)) (omega arith))
    λ us e. keeps_in b 0 1 (length us) (length ts) _ (of_keeps b r k ChanOf us) (omega (arith, after_key_length key.Chan ts us e)) (omega arith))
    λ us e. keeps_in b 0 1 (length us) (length ts) _ (of_keeps b r k ListOf us) (omega (arith, after_key_length key.List ts us e)) (omega arith))
    λ us e. keeps_in b 0 1 (length us) (length ts) _ (of_keeps b r k ArrayOf us) (omega (arith, after_key_length key.Array ts us e)) (omega arith))
    λ x e. omega (arith, front_length simple_of ts x e)

pub ty_keeps : (b : ℕ) (ts : List Kind) → Keeps b 1 (length ts) (ty_at b ts)
unfolding ty_at
ty_keeps zero ts = omega arith
ty_keeps (suc b) ts = above_keeps b (ty_at b) (ty_keeps b) ts
