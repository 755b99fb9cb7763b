-- What fails is no typed tree, value, thing or pattern.
use Rattle.std.proofs.Common.{◌≡◌, sym, ap, ◌∙◌, subst, ℕ, ℤ, ◌+ℤ◌, pos, List, Option}
use Rattle.std.proofs.lemmas.Option.{none-some, same_Some}
use Rattle.limbo_types.specs.Types.{Ty, Module}
use Rattle.limbo_tree.specs.Exprs as tree
use Rattle.limbo_typed.specs.Typed.{Expr, Of, Exprs, Optional, Absent, Present, Items, Read, Place, Pattern, ToNothing, Patterns}
use Rattle.limbo_typed.specs.Sound.{type_of, IsSettled}
use Rattle.limbo_refusals.specs.Refusals.{NoneIs}
use Rattle.limbo_defining.specs.limbo_context.Context.{Context, Body}
use Rattle.limbo_folding.specs.Folding.{value_of}
use Rattle.limbo_assigning.specs.limbo_operands.Operands.{IsPlace}
use Rattle.limbo_assigning.specs.limbo_operands.Operands as operand
use Rattle.limbo_assigning.specs.Assigning.{Assigns}
use Rattle.limbo_value_forms.specs.limbo_places.Slices.{Slices}
use Rattle.limbo_value_forms.specs.limbo_channels.Loading.{Loads}
use Rattle.limbo_value_forms.specs.limbo_literals.Literals.{Fills, Sizes}
use Rattle.limbo_applying.specs.limbo_calls.Prints.{Prints, Output}
use Rattle.limbo_applying.specs.limbo_things.Things.{Thing, AValue, AType, APrint, NameIs, MemberIs, PartIs}
use Rattle.limbo_applying.specs.Applying.{Applies}
use Rattle.limbo_causes.specs.Causes.{Cause}
use Rattle.limbo_written.specs.limbo_permits.Permits.{Forbids}
use Rattle.limbo_written.proofs.limbo_permits_lemmas.Standing.{expression_forbidden}
use Rattle.limbo_written.proofs.Once.{one_written, fails_or_written}
use Rattle.limbo_value_forms.specs.Forms.{one, Forms}
use Rattle.limbo_defining.specs.Defining.{Defines}
use Rattle.limbo_defining.proofs.Unique.{never_both}
use Rattle.limbo_typing.specs.Typing.{OutputIs, Denotes, HasValue, Types, Has, HaveValues, MayHave, Fill, IsPattern, ArePatterns}
use Rattle.limbo_typing.specs.Typing as typing
use Rattle.limbo_typing.specs.Failing as fails
use Rattle.limbo_typing.specs.Failing.{FailsName, FailsModule, FailsThing, FailsValue, Fails, FailsForm, FailsSome, FailsPart, FailsFill}
use Rattle.limbo_typing.specs.Failing.{FailsPlace, FailsPattern, FailsPatterns}
use Rattle.limbo_typing.proofs.Lower.{OneBelow, one_name}
use Rattle.limbo_typing.proofs.Forms as form
use Rattle.limbo_typing.proofs.Called.{called_thing, call_with, print_with}
use Rattle.limbo_typing.proofs.Once.{one_number, one_output, value_at, row_at, part_at, type_at, patterns_at, items_at, from_at, behind_at}
use Rattle.limbo_typing.proofs.Once.{one_thing, one_value, one_typed, one_had, one_row, one_part, one_fill, one_pattern}

-- ---- parts that don't fit, in place of equal ones

no_slice : (x y : Expr) (u u' v v' : Optional) (z : Expr) → x ≡ y → u ≡ u' → v ≡ v' → NoneIs (Slices x u v) → Slices y u' v' z → ⊥
no_slice x y u u' v v' z p q r none h =
    let a = subst (λ (i : Expr). Slices i u' v' z) (sym p) h in
    let b = subst (λ (i : Optional). Slices x i v' z) (sym q) a in
    none z (subst (λ (i : Optional). Slices x u i z) (sym r) b)

no_size : (x y : Expr) (t u : Ty) (z : Expr) → x ≡ y → t ≡ u → NoneIs (Sizes x t) → Sizes y u z → ⊥
no_size x y t u z p q none h =
    let a = subst (λ (i : Expr). Sizes i u z) (sym p) h in none z (subst (λ (i : Ty). Sizes x i z) (sym q) a)

no_items : (u u' : Optional) (is js : Items) (v v' : Optional) (z : Expr) → u ≡ u' → is ≡ js → v ≡ v' → NoneIs (Fills u is v)
    → Fills u' js v' z → ⊥
no_items u u' is js v v' z p q r none h =
    let a = subst (λ (i : Optional). Fills i js v' z) (sym p) h in
    let b = subst (λ (i : Items). Fills u i v' z) (sym q) a in
    none z (subst (λ (i : Optional). Fills u is i z) (sym r) b)

no_load : (i j : ℕ) (x y z : Expr) → AType (Module i) ≡ AType (Module j) → x ≡ y → NoneIs (Loads i x) → Loads j y z → ⊥
no_load i j x y z p q none h =
    let e : j ≡ i = cc in
    let a = subst (λ (n : ℕ). Loads n y z) e h in
    none z (subst (λ (v : Expr). Loads i v z) (sym q) a)

not_assigned : (p q : Pattern) (x y z : Expr) → p ≡ q → x ≡ y → NoneIs (Assigns p x) → Assigns q y z → ⊥
not_assigned p q x y z e f none h =
    let a = subst (λ (i : Pattern). Assigns i y z) (sym e) h in none z (subst (λ (v : Expr). Assigns p v z) (sym f) a)

no_output : (fd : Option ℕ) (o o' : Output) (m : Expr) (t t' : List ℕ) (xs ys : Exprs) (z : Expr) → o ≡ o' → t ≡ t' → xs ≡ ys
    → NoneIs (Prints fd o m t xs) → Prints fd o' m t' ys z → ⊥
no_output fd o o' m t t' xs ys z p q r none h =
    let a = subst (λ (i : Output). Prints fd i m t' ys z) (sym p) h in
    let b = subst (λ (i : List ℕ). Prints fd o m i ys z) (sym q) a in
    none z (subst (λ (i : Exprs). Prints fd o m t i z) (sym r) b)

absent_present : (x : Expr) → Present x ≡ Absent → ⊥
absent_present x e = cc

place_read : (x : Expr) (t : Ty) (p : Place) → x ≡ Of t (Read p) → (IsPlace x → ⊥) → ⊥
place_read x t p e never = never (subst (λ (z : Expr). IsPlace z) (sym e) (operand.place t p))

module _ (c : Context) where
  not_named : (b : Body) (n : List ℕ) (k : Cause) → FailsName c b n k → (t : Thing) → NameIs c b n t → ⊥
  not_named b n _ (fails.unseen e) t h = none-some h.means (sym e ∙ h.is_seen)
  not_named b n _ (fails.no_thing m e none) t h = none t h

  not_module : (b : Body) (n : List ℕ) (k : Cause) → FailsModule c b n k → (i : ℕ) → NameIs c b n (AType (Module i)) → ⊥
  not_module b n _ (fails.no_name k f) i h = not_named b n k f (AType (Module i)) h
  not_module b n _ (fails.no_module t m none) i h = none i (one_name c b n t (AType (Module i)) m h)

  defines_at : (b b1 d : Body) (l : tree.Expr) (x y : Expr) (p : Pattern) → b ≡ b1 → x ≡ y → Defines b1 l (type_of y) p d
      → Defines b l (type_of x) p d
  defines_at b b1 d l x y p e f h =
      let a = subst (λ (i : Body). Defines i l (type_of y) p d) (sym e) h in
      subst (λ (v : Expr). Defines b l (type_of v) p d) (sym f) a

module _ (below : OneBelow) (c : Context) where
  mutual
    pub not_thing : (b : Body) (e : tree.Expr) (k : Cause) → FailsThing c b e k → (d : Body) (t : Thing) → Denotes c b e t d → ⊥
    not_thing _ _ _ (fails.bad_name b n k f) d t h = not_named c b n k f t (form.name_of c b d n t h).0
    not_thing _ _ _ (fails.before_member b e n k f) d t h = let g = form.member_of c b d e n t h in not_thing b e k f d g.0 g.1
    not_thing _ _ _ (fails.no_member b b' e n s m none) d t h =
        let g = form.member_of c b d e n t h in
        let p = one_thing below c b b' e s m d g.0 g.1 in
        none t (subst (λ (z : Thing). MemberIs c n z t) (sym p.0) g.2)
    not_thing _ _ _ (fails.before_part b e n k f) d t h = let g = form.part_of c b d e n t h in not_thing b e k f d g.0 g.1
    not_thing _ _ _ (fails.no_part_of b b' e n s m none) d t h =
        let g = form.part_of c b d e n t h in
        let p = one_thing below c b b' e s m d g.0 g.1 in
        none t (subst (λ (z : Thing). PartIs c n z t) (sym p.0) g.2)
    not_thing _ _ _ (fails.no_value b e k q f) d t h = let g = form.value_in c b d e t q h in not_value b e k f d g.0 g.2

    pub not_value : (b : Body) (e : tree.Expr) (k : Cause) → FailsValue c b e k → (d : Body) (x : Expr) → HasValue c b e x d → ⊥
    not_value _ _ _ (fails.untyped b e k f) d x h = not_typed b e k f d x (form.typed_value c b d e x h)
    not_value _ _ _ (fails.no_answer b b' e y m n) d x h =
        let p = one_typed below c b b' e y m d x (form.typed_value c b d e x h) in
        form.answers c b d e x h (ap type_of (sym p.0) ∙ n)

    pub not_typed : (b : Body) (e : tree.Expr) (k : Cause) → Fails c b e k → (d : Body) (x : Expr) → Types c b e x d → ⊥
    not_typed _ _ _ (fails.no_form b e k f) d x h = not_had b e k f d x (form.has_form c b d e x h)
    not_typed _ _ _ (fails.not_permitted b b' e y r m f) d x h =
        let p = one_had below c b b' e y m d x (form.has_form c b d e x h) in
        expression_forbidden c x r (subst (λ (z : Expr). Forbids c z r) p.0 f) (form.is_permitted c b d e x h)

    pub not_had : (b : Body) (e : tree.Expr) (k : Cause) → FailsForm c b e k → (d : Body) (z : Expr) → Has c b e z d → ⊥
    not_had _ _ _ (fails.a_value b e es k q n f) d z h = let g = form.values_of c b d e es z q h in not_row b es k f d g.0 g.1
    not_had _ _ _ (fails.what_changes b e l k q f) d z h =
        let v = form.changed_values e l q in
        let g = form.values_of c b d e (tree.MoreExprs l v.0) z v.1 h in
        let w = form.more_values c b d l v.0 g.0 g.1 in
        not_place b l k f w.0 w.1 w.4
    not_had _ _ _ (fails.changed_by b b' e l es x k n q m f) d z h =
        let g = form.values_of c b d e (tree.MoreExprs l es) z q h in
        let w = form.more_values c b d l es g.0 g.1 in
        let p = one_value below c b b' l x m w.0 w.1 w.4 in
        not_row b' es k f d w.2 (row_at c b' w.0 d es w.2 p.1 w.5)
    not_had _ _ _ (fails.refused_form b b' e es xs r q m f none) d z h =
        let g = form.values_of c b d e es z q h in
        let p = one_row below c b b' es xs m d g.0 g.1 in
        none z (subst (λ (i : Exprs). Forms c e i z) (sym p.0) g.2)
    not_had _ _ _ (fails.bad_path b e k q f) d z h = not_thing b e k f d (AValue z) (form.path_of c b d e z q h)
    not_had _ _ _ (fails.path_to_none b b' e t q m none) d z h =
        none z (one_thing below c b b' e t m d (AValue z) (form.path_of c b d e z q h)).0
    not_had _ _ _ (fails.inside b e k f) d z h = not_typed b e k f d z (form.parenthesised c b d e z h)
    not_had _ _ _ (fails.empty b) d z h = form.nothing_in c b d z h
    not_had _ _ _ (fails.sliced b e i j k f) d z h =
        let g = form.slice_of c b d e i j z h in not_value b e k f g.b1 g.base g.has_base
    not_had _ _ _ (fails.from_index b b' e i j x k m f) d z h =
        let g = form.slice_of c b d e i j z h in
        let p = one_value below c b b' e x m g.b1 g.base g.has_base in
        not_part b' i k f g.b2 g.from (part_at c b' g.b1 g.b2 i g.from p.1 g.has_from)
    not_had _ _ _ (fails.to_index b b1 b2 e i j x u k m s f) d z h =
        let g = form.slice_of c b d e i j z h in
        let p = one_value below c b b1 e x m g.b1 g.base g.has_base in
        let q = one_part below c b1 b2 i u s g.b2 g.from (part_at c b1 g.b1 g.b2 i g.from p.1 g.has_from) in
        not_part b2 j k f d g.to (part_at c b2 g.b2 d j g.to q.1 g.has_to)
    not_had _ _ _ (fails.no_slice b b1 b2 b' e i j x u v t m s l f none) d z h =
        let g = form.slice_of c b d e i j z h in
        let p = one_value below c b b1 e x m g.b1 g.base g.has_base in
        let q = one_part below c b1 b2 i u s g.b2 g.from (part_at c b1 g.b1 g.b2 i g.from p.1 g.has_from) in
        let r = one_part below c b2 b' j v l d g.to (part_at c b2 g.b2 d j g.to q.1 g.has_to) in
        no_slice x g.base u g.from v g.to z p.0 q.0 r.0 none g.slices
    not_had _ _ _ (fails.length b e t k f) d z h = let g = form.length_of c b d e t z h in not_value b e k f d g.length g.has
    not_had _ _ _ (fails.item_type b b' e t x k m f) d z h =
        let g = form.length_of c b d e t z h in
        let p = one_value below c b b' e x m d g.length g.has in
        fails_or_written c b' t k g.ty f (type_at c b' d t g.ty p.1 g.means)
    not_had _ _ _ (fails.no_length b b' e t u x r m s f none) d z h =
        let g = form.length_of c b d e t z h in
        let p = one_value below c b b' e x m d g.length g.has in
        let q = one_written c b' t u g.ty s (type_at c b' d t g.ty p.1 g.means) in
        no_size x g.length u g.ty z p.0 q none g.sizes
    not_had _ _ _ (fails.carried_type b t k f) d z h =
        let g = form.channel_of c b d t z h in fails_or_written c b t k g.0 f g.2
    not_had _ _ _ (fails.with_room b e t) d z h = form.no_room c b d e t z h
    not_had _ _ _ (fails.array_length b n is comma k f) d z h =
        let g = form.items_of c b d n is comma z h in not_part b n k f g.b1 g.length g.has
    not_had _ _ _ (fails.an_item b b' n is comma u k m f) d z h =
        let g = form.items_of c b d n is comma z h in
        let p = one_part below c b b' n u m g.b1 g.length g.has in
        not_filled b' (pos 0) Absent is k f d g.items g.last (items_at c is g.items g.last d b' g.b1 (pos 0) Absent p.1 g.fill)
    not_had _ _ _ (fails.no_array b b1 b' n is comma u last js r m s f none) d z h =
        let g = form.items_of c b d n is comma z h in
        let p = one_part below c b b1 n u m g.b1 g.length g.has in
        let q =
        one_fill below c b1 b' (pos 0) Absent is js last s d g.items g.last
        (items_at c is g.items g.last d b1 g.b1 (pos 0) Absent p.1 g.fill) in
        no_items u g.length js g.items last g.last z p.0 q.0 q.1 none g.fills
    not_had _ _ _ (fails.bad_module b n e k f) d z h = let g = form.load_of c b d n e z h in not_module c b n k f g.interface g.named
    not_had _ _ _ (fails.path_of_module b n e i k m f) d z h = let g = form.load_of c b d n e z h in not_value b e k f d g.path g.has
    not_had _ _ _ (fails.no_load b b' n e i x r m s q none) d z h =
        let g = form.load_of c b d n e z h in
        let p = one_value below c b b' e x s d g.path g.has in
        let o = one_name c b n (AType (Module i)) (AType (Module g.interface)) m g.named in
        no_load i g.interface x g.path z o p.0 none g.loads
    not_had _ _ _ (fails.function b f es k q) d z h =
        let g = called_thing c b f es z d (form.call_of c b d f es z h) in not_thing b f k q g.0 g.1 g.2
    not_had _ _ _ (fails.argument b b' f es t k m n q) d z h =
        let g = call_with c b f es z d b' t (λ o s l. one_thing below c b b' f t m o s l) n (form.call_of c b d f es z h) in
        not_row b' es k q d g.0 g.1
    not_had _ _ _ (fails.not_applied b b1 b' f es t xs r m n s q none) d z h =
        let g = call_with c b f es z d b1 t (λ o v l. one_thing below c b b1 f t m o v l) n (form.call_of c b d f es z h) in
        let p = one_row below c b1 b' es xs s d g.0 g.1 in
        none z (subst (λ (i : Exprs). Applies c t i z) (sym p.0) g.2)
    not_had _ _ _ (fails.no_format b b' f es p m s q) d z h =
        let g = print_with c b f es z d b' p m (λ o v l. one_thing below c b b' f (APrint p m) s o v l) (form.call_of c b d f es z h) in
        none-some (g.text, g.others) (sym q ∙ g.format)
    not_had _ _ _ (fails.printed_value b b' f es others p m text k s q n) d z h =
        let g = print_with c b f es z d b' p m (λ o v l. one_thing below c b b' f (APrint p m) s o v l) (form.call_of c b d f es z h) in
        let a = same_Some (text, others) (g.text, g.others) (sym q ∙ g.format) in
        not_row b' others k n d g.values
        (subst (λ (v : tree.Exprs). HaveValues c b' v g.values d) (sym (ap (λ v. v.1) a)) g.have)
    not_had _ _ _ (fails.no_print b b1 b' f es others p m text xs ys o r s q n i j none) d z h =
        let g = print_with c b f es z d b1 p m (λ o v l. one_thing below c b b1 f (APrint p m) s o v l) (form.call_of c b d f es z h) in
        let a = same_Some (text, others) (g.text, g.others) (sym q ∙ g.format) in
        let l =
        one_row below c b1 b' others xs n d g.values
        (subst (λ (v : tree.Exprs). HaveValues c b1 v g.values d) (sym (ap (λ v. v.1) a)) g.have) in
        let w =
        one_output p xs o g.output ys g.printed i (subst (λ (v : Exprs). OutputIs p v g.output g.printed) (sym l.0) g.is) in
        no_output c.fd o g.output m text g.text ys g.printed z w.0 (ap (λ v. v.0) a) w.1 none g.prints
    not_had _ _ _ (fails.left_side b l r k n f) d z h =
        let g = form.assignment_of c b d l r z n h in not_pattern b l k f g.b1 g.pattern g.left
    not_had _ _ _ (fails.to_nil b b' l r n i) d z h =
        let g = form.assignment_of c b d l r z n h in
        g.somewhere (sym (one_pattern below c b b' l ToNothing i g.b1 g.pattern g.left).0)
    not_had _ _ _ (fails.right_side b b' l r p k n i f) d z h =
        let g = form.assignment_of c b d l r z n h in
        let q = one_pattern below c b b' l p i g.b1 g.pattern g.left in
        not_value b' r k f d g.value (value_at c b' g.b1 d r g.value q.1 g.right)
    not_had _ _ _ (fails.not_assigned b b1 b' l r p y n i m none) d z h =
        let g = form.assignment_of c b d l r z n h in
        let q = one_pattern below c b b1 l p i g.b1 g.pattern g.left in
        let a = one_value below c b1 b' r y m d g.value (value_at c b1 g.b1 d r g.value q.1 g.right) in
        not_assigned p g.pattern y g.value z q.0 a.0 none g.assigns
    not_had _ _ _ (fails.defined_value b l r k f) d z h =
        let g = form.definition_of c b d l r z h in not_value b r k f g.b1 g.value g.right
    not_had _ _ _ (fails.unsettled b b' l r y m never) d z h =
        let g = form.definition_of c b d l r z h in
        let q = one_value below c b b' r y m g.b1 g.value g.right in
        never (subst (λ (v : Expr). IsSettled (type_of v)) (sym q.0) g.settled)
    not_had _ _ _ (fails.not_defined b b' l r y k m f) d z h =
        let g = form.definition_of c b d l r z h in
        let q = one_value below c b b' r y m g.b1 g.value g.right in
        never_both b' l (type_of y) g.pattern d k f (defines_at c b' g.b1 d l y g.value g.pattern q.1 q.0 g.defines)

    pub not_row : (b : Body) (es : tree.Exprs) (k : Cause) → FailsSome c b es k → (d : Body) (xs : Exprs) → HaveValues c b es xs d → ⊥
    not_row _ _ _ (fails.here b e es k f) d zs h = let g = form.more_values c b d e es zs h in not_value b e k f g.0 g.1 g.4
    not_row _ _ _ (fails.later b b' e es x k m f) d zs h =
        let g = form.more_values c b d e es zs h in
        let p = one_value below c b b' e x m g.0 g.1 g.4 in
        not_row b' es k f d g.2 (row_at c b' g.0 d es g.2 p.1 g.5)

    pub not_part : (b : Body) (n : tree.Part) (k : Cause) → FailsPart c b n k → (d : Body) (u : Optional) → MayHave c b n u d → ⊥
    not_part _ _ _ (fails.there b e k f) d u h = let g = form.present_part c b d e u h in not_value b e k f d g.0 g.2

    pub not_filled : (b : Body) (n : ℤ) (rest : Optional) (is : tree.Inits) (k : Cause) → FailsFill c b n rest is k
        → (d : Body) (js : Items) (last : Optional) → Fill c b n rest is js last d → ⊥
    not_filled _ _ _ _ _ (fails.item b n rest e is k f) d js last h =
        let g = form.next_in c b d n rest last e is js h in not_value b e k f g.0 g.1 g.4
    not_filled _ _ _ _ _ (fails.behind_item b b' n rest e is x k m f) d js last h =
        let g = form.next_in c b d n rest last e is js h in
        let p = one_value below c b b' e x m g.0 g.1 g.4 in
        not_filled b' (n +ℤ pos 1) rest is k f d g.2 last (items_at c is g.2 last d b' g.0 (n +ℤ pos 1) rest p.1 g.5)
    not_filled _ _ _ _ _ (fails.index b n rest i e is k f) d js last h =
        let g = form.at_in c b d n rest last i e is js h in not_value b i k f g.b1 g.at g.has_index
    not_filled _ _ _ _ _ (fails.no_int b b' n rest i e is y m never) d js last h =
        let g = form.at_in c b d n rest last i e is js h in
        let p = one_value below c b b' i y m g.b1 g.at g.has_index in
        never (ap type_of p.0 ∙ g.is_int)
    not_filled _ _ _ _ _ (fails.not_constant b b' n rest i e is y m none) d js last h =
        let g = form.at_in c b d n rest last i e is js h in
        let p = one_value below c b b' i y m g.b1 g.at g.has_index in
        none g.index (ap value_of p.0 ∙ g.is_number)
    not_filled _ _ _ _ _ (fails.indexed b b' n m rest i e is y k s v f) d js last h =
        let g = form.at_in c b d n rest last i e is js h in
        let p = one_value below c b b' i y s g.b1 g.at g.has_index in
        not_value b' e k f g.b2 g.item (value_at c b' g.b1 g.b2 e g.item p.1 g.has_item)
    not_filled _ _ _ _ _ (fails.behind_indexed b b1 b' n m rest i e is y x k s v l f) d js last h =
        let g = form.at_in c b d n rest last i e is js h in
        let p = one_value below c b b1 i y s g.b1 g.at g.has_index in
        let o = one_number y g.at m g.index p.0 v g.is_number in
        let q = one_value below c b1 b' e x l g.b2 g.item (value_at c b1 g.b1 g.b2 e g.item p.1 g.has_item) in
        not_filled b' (m +ℤ pos 1) rest is k f d g.items last (from_at c is g.items last d b' g.b2 m g.index rest q.1 o g.others)
    not_filled _ _ _ _ _ (fails.second b n y e is) d js last h =
        let g = form.rest_in c b d n (Present y) last e is js h in absent_present y g.2
    not_filled _ _ _ _ _ (fails.all_others b n e is k f) d js last h =
        let g = form.rest_in c b d n Absent last e is js h in not_value b e k f g.0 g.1 g.3
    not_filled _ _ _ _ _ (fails.behind_others b b' n e is x k m f) d js last h =
        let g = form.rest_in c b d n Absent last e is js h in
        let p = one_value below c b b' e x m g.0 g.1 g.3 in
        not_filled b' n (Present x) is k f d js last (behind_at c is js last d b' g.0 n x g.1 p.1 p.0 g.4)

    pub not_place : (b : Body) (e : tree.Expr) (k : Cause) → FailsPlace c b e k → (d : Body) (x : Expr) → HasValue c b e x d → ⊥
    not_place _ _ _ (fails.enclosed b e k f) d x h =
        let whole = form.has_form c b d (tree.Group (one e)) x (form.typed_value c b d (tree.Group (one e)) x h) in
        let t = form.parenthesised c b d e x whole in
        not_place b e k f d x (typing.has_value b d e x t (form.answers c b d (tree.Group (one e)) x h))
    not_place _ _ _ (fails.names_none b b' e t q m none) d x h =
        let a = form.path_of c b d e x q (form.has_form c b d e x (form.typed_value c b d e x h)) in
        none x (one_thing below c b b' e t m d (AValue x) a).0
    not_place _ _ _ (fails.names_nothing b e k q f) d x h =
        not_thing b e k f d (AValue x) (form.path_of c b d e x q (form.has_form c b d e x (form.typed_value c b d e x h)))
    not_place _ _ _ (fails.named_value b b' e y k q m f) d x h = not_value b e k f d x h
    not_place _ _ _ (fails.unnamed b e k q n f) d x h = not_value b e k f d x h

    pub not_pattern : (b : Body) (e : tree.Expr) (k : Cause) → FailsPattern c b e k → (d : Body) (p : Pattern) → IsPattern c b e p d → ⊥
    not_pattern _ _ _ (fails.in_it b e k f) d p h = not_pattern b e k f d p (form.pattern_in c b d e p h)
    not_pattern _ _ _ (fails.a_pattern b e i es k f) d p h =
        let g = form.patterns_in c b d e i es p h in
        not_patterns b (tree.MoreExprs e (tree.MoreExprs i es)) k f d g.0 g.2
    not_pattern _ _ _ (fails.no_left b e k q f) d p h =
        let g = form.place_in c b d e p q h in not_place b e k f d (Of g.0 (Read g.1)) g.3
    not_pattern _ _ _ (fails.no_place b b' e x q m never) d p h =
        let g = form.place_in c b d e p q h in
        let o = one_value below c b b' e x m d (Of g.0 (Read g.1)) g.3 in
        place_read x g.0 g.1 o.0 never
    not_pattern _ _ _ (fails.no_pattern b) d p h = form.no_pattern_in c b d p h

    pub not_patterns : (b : Body) (es : tree.Exprs) (k : Cause) → FailsPatterns c b es k → (d : Body) (ps : Patterns)
        → ArePatterns c b es ps d → ⊥
    not_patterns _ _ _ (fails.first_pattern b e es k f) d qs h =
        let g = form.more_patterns c b d e es qs h in not_pattern b e k f g.0 g.1 g.4
    not_patterns _ _ _ (fails.later_pattern b b' e es p k m f) d qs h =
        let g = form.more_patterns c b d e es qs h in
        let o = one_pattern below c b b' e p m g.0 g.1 g.4 in
        not_patterns b' es k f d g.2 (patterns_at c b' g.0 d es g.2 o.1 g.5)
