-- Rows of the table of operators, for operands that are what they ask.
use Rattle.std.proofs.Common.{◌≡◌, ◌⊎◌, inl, inr, ℕ, List, [], ◌∷◌, refl, sym, subst, ◌∙◌}
use Rattle.limbo_values.specs.declared.number.Kind.{Kind}
use Rattle.limbo_values.specs.declared.number.Kind.TheVariants as kind
use Rattle.limbo_types.specs.Types as ty
use Rattle.limbo_types.specs.Types.{Ty, Int, Chars, ListOf, ChanOf, RefAdt, RefPick}
use Rattle.limbo_layout.specs.Adts.{Def}
use Rattle.limbo_tree.specs.declared.operators.UnaryOp.{UnaryOp}
use Rattle.limbo_typed.specs.declared.operation.Operation.{Operation}
use Rattle.limbo_typed.specs.Typed.{Module, Var, Expr, Of, Node}
use Rattle.limbo_typed.specs.Fitting.{of_kind, IsRefOf, Stands, Gives}
use Rattle.limbo_typed.specs.Sound.{type_of, IsSettled, IsNamed}
use Rattle.limbo_standing.specs.Standing as standing
use Rattle.limbo_standing.specs.Standing.{Settles, SettlesForm}
use Rattle.limbo_standing.proofs.Settled.{settled_stands}
use Rattle.limbo_operators.specs.declared.signs.Binary.{Binary}
use Rattle.limbo_operators.specs.Rows as two
use Rattle.limbo_operators.specs.Rows.{Row, BinaryRow, AreLike}
use Rattle.limbo_operators.proofs.Giving.{binary_gives}
use Rattle.limbo_prefixes.specs.Rows as one
use Rattle.limbo_prefixes.specs.Rows.{OneRow, UnaryRow, BytesRow}
use Rattle.limbo_prefixes.proofs.Giving.{unary_gives, bytes_give}
use Rattle.limbo_typed_sound.proofs.Ready.{IsPlain, stands_alone, HasNames, MayBeOpen, Ready}

-- ---- the type of a value where one is asked for

-- the value's type stands there, and is the type that is asked for or the value's own
abbrev pub IsAsked : (given asked own : Ty) → Type 0
IsAsked given asked own = Stands given asked × ((given ≡ asked) ⊎ (given ≡ own))

its_type_form : (t u : Ty) (n : Node) (f : Expr) → SettlesForm t u n f → (type_of f ≡ t) ⊎ (type_of f ≡ u)
its_type_form _ _ _ _ (standing.nil t h) = inl refl
its_type_form _ _ _ _ (standing.variant n v e) = inr refl
its_type_form _ _ _ _ (standing.tuple ts u es fs s) = inl refl
its_type_form _ _ _ _ (standing.list t u es fs s) = inl refl
its_type_form _ _ _ _ (standing.cons t u es fs s) = inl refl
its_type_form _ _ _ _ (standing.array t u length is js rest last s l) = inl refl

its_type : (t : Ty) (e f : Expr) → Settles t e f → (type_of f ≡ t) ⊎ (type_of f ≡ type_of e)
its_type _ _ _ (standing.itself t n) = inl refl
its_type _ _ _ (standing.by_form t u n e d s) = its_type_form t u n e s

pub is_asked : (t : Ty) (e f : Expr) → Settles t e f → IsAsked (type_of f) t (type_of e)
is_asked t e f s = (settled_stands t e f s, its_type t e f s)

kind_plain : (k : Kind) → IsPlain (of_kind k)
kind_plain kind.Byte = tt
kind_plain kind.Int = tt
kind_plain kind.Big = tt

kind_settled : (k : Kind) → IsSettled (of_kind k)
kind_settled kind.Byte = tt
kind_settled kind.Int = tt
kind_settled kind.Big = tt

pub ref_settled : (n : ℕ) (t : Ty) → IsRefOf n t → IsSettled t
ref_settled n (RefAdt k) h = tt
ref_settled n (RefPick k v) h = tt
ref_settled n _ h = absurd h

-- a type that is asked for of another than a `ref` of an adt
alone : (a t u : Ty) → IsPlain t → IsAsked a t u → a ≡ t
alone a t u p h = stands_alone a t p h.0

-- one that is the value's own
own : (a t : Ty) → IsAsked a t t → a ≡ t
own a t h = elim h.1 [ inl e ↦ e | inr e ↦ e ]

-- one that is asked of an open `nil`
of_nil : (a t : Ty) → IsAsked a t ty.Nil → a ≡ t
of_nil a t h = elim h.1 [ inl e ↦ e | inr e ↦ e ∙ nil_is t (subst (λ (z : Ty). Stands z t) e h.0) ]
  where
    nil_is : (t : Ty) → Stands ty.Nil t → ty.Nil ≡ t
    nil_is t (inl q) = q
    nil_is t (inr q) = absurd q

-- ---- channels are never open

abbrev pub IsKnown : Ty → Type 0
IsKnown (ChanOf t) = IsSettled t
IsKnown _ = Unit {0}

settled_known : (t : Ty) → IsSettled t → IsKnown t
settled_known (ChanOf t) s = s
settled_known _ s = tt

open_known : (t : Ty) → MayBeOpen t → IsKnown t
open_known (ChanOf t) o = absurd o
open_known _ o = tt

pub known : (m : Module) (vs : List Var) (e : Expr) → Ready m vs e → IsKnown (type_of e)
known m vs (Of t n) (inl s) = settled_known t s.0.1
known m vs (Of t n) (inr o) = open_known t o.2

-- ---- rows for two operands

module _ (m : Module) where
  kind_named : (k : Kind) → IsNamed m (of_kind k)
  kind_named kind.Byte = (tt, tt)
  kind_named kind.Int = (tt, tt)
  kind_named kind.Big = (tt, tt)

  -- A row gives a value of a settled type, or it is that of `::` where nothing says yet which list it is.
  abbrev pub IsOpenRow : Ty → Ty → Row → Type 0
  IsOpenRow t u row = (row.left ≡ t) × (row.right ≡ u) × (row.result ≡ ListOf ty.Nil)

  pub settled_or_open : (sign : Binary) (t u : Ty) (row : Row) → BinaryRow sign t u row → IsSettled row.result ⊎ IsOpenRow t u row
  settled_or_open _ _ _ _ (two.BinaryRow.numbers o k) = inl (kind_settled k)
  settled_or_open _ _ _ _ (two.texts t u h i) = inl tt
  settled_or_open _ _ _ _ (two.shifts s k) = inl (kind_settled k)
  settled_or_open _ _ _ _ (two.BinaryRow.compared c k) = inl tt
  settled_or_open _ _ _ _ (two.ordered c t u o h i) = inl tt
  settled_or_open _ _ _ _ (two.same_text c t u h i j) = inl tt
  settled_or_open _ _ _ _ (two.identified c o t u h i) = inl tt
  settled_or_open _ _ _ _ (two.with_nil c o t h i j) = inl tt
  settled_or_open _ _ _ _ (two.nil_with c o t h i j) = inl tt
  settled_or_open _ _ _ _ (two.puts t u item joined h j s) = inl s
  settled_or_open _ _ _ _ (two.puts_open t u item joined h j s) = inr (refl, refl, refl)

  like_left : (t u : Ty) → AreLike t u → IsKnown t → IsSettled t
  like_left _ _ (two.refs n t u h i) k = ref_settled n t h
  like_left _ _ (two.channels t) k = k

  like_right : (t u : Ty) → AreLike t u → IsKnown t → IsSettled u
  like_right _ _ (two.refs n t u h i) k = ref_settled n u i
  like_right _ _ (two.channels t) k = k

  -- the types that a row asks are named
  pub row_named : (sign : Binary) (t u : Ty) (row : Row) → BinaryRow sign t u row → IsSettled row.result → HasNames m row.result
      → HasNames m t → HasNames m u → IsKnown t → IsNamed m row.left × IsNamed m row.right
  row_named _ _ _ _ (two.BinaryRow.numbers o k) s r g h i = (kind_named k, kind_named k)
  row_named _ _ _ _ (two.texts t u a b) s r g h i = ((tt, tt), (tt, tt))
  row_named _ _ _ _ (two.shifts d k) s r g h i = (kind_named k, (tt, tt))
  row_named _ _ _ _ (two.BinaryRow.compared c k) s r g h i = (kind_named k, kind_named k)
  row_named _ _ _ _ (two.ordered c t u a b d) s r g h i = ((tt, tt), (tt, tt))
  row_named _ _ _ _ (two.same_text c t u a b d) s r g h i = ((tt, tt), (tt, tt))
  row_named _ _ _ _ (two.identified c o t u a l) s r g h i = ((g, like_left t u l i), (h, like_right t u l i))
  row_named _ _ _ _ (two.with_nil c o t a b k) s r g h i = ((g, k), (g, k))
  row_named _ _ _ _ (two.nil_with c o t a b k) s r g h i = ((h, k), (h, k))
  row_named _ _ _ _ (two.puts t u item joined a j k) s r g h i = ((r, k), (r, k))
  row_named _ _ _ _ (two.puts_open t u item joined a j k) s r g h i = absurd s

  -- operands that are what a row asks fit its operation
  exactly : (defs : List Def) (o : Operation) (a b t u r : Ty) → a ≡ t → b ≡ u → Gives defs o (t ∷ u ∷ []) r → Gives defs o (a ∷ b ∷ []) r
  exactly defs o a b t u r p q h =
      subst (λ (z : Ty). Gives defs o (z ∷ b ∷ []) r) (sym p) (subst (λ (z : Ty). Gives defs o (t ∷ z ∷ []) r) (sym q) h)

  pub row_gives : (defs : List Def) (sign : Binary) (t u : Ty) (row : Row) → BinaryRow sign t u row → IsSettled row.result → (a b : Ty)
      → IsAsked a row.left t → IsAsked b row.right u → Gives defs row.operation (a ∷ b ∷ []) row.result
  row_gives defs sign t u row h s a b p q = go sign t u row h s (binary_gives defs sign t u row h s) p q
    where
      go : (sign : Binary) (t u : Ty) (row : Row) → BinaryRow sign t u row → IsSettled row.result
          → Gives defs row.operation (row.left ∷ row.right ∷ []) row.result → IsAsked a row.left t → IsAsked b row.right u → Gives defs
          row.operation (a ∷ b ∷ []) row.result
      go _ _ _ row (two.BinaryRow.numbers o k) s g p q =
          exactly defs row.operation a b row.left row.right row.result (alone a _ _ (kind_plain k) p) (alone b _ _ (kind_plain k) q) g
      go _ _ _ row (two.texts t u c d) s g p q =
          exactly defs row.operation a b row.left row.right row.result (alone a _ _ tt p) (alone b _ _ tt q) g
      go _ _ _ row (two.shifts c k) s g p q =
          exactly defs row.operation a b row.left row.right row.result (alone a _ _ (kind_plain k) p) (alone b _ _ tt q) g
      go _ _ _ row (two.BinaryRow.compared c k) s g p q =
          exactly defs row.operation a b row.left row.right row.result (alone a _ _ (kind_plain k) p) (alone b _ _ (kind_plain k) q) g
      go _ _ _ row (two.ordered c t u d e f) s g p q =
          exactly defs row.operation a b row.left row.right row.result (alone a _ _ tt p) (alone b _ _ tt q) g
      go _ _ _ row (two.same_text c t u d e f) s g p q =
          exactly defs row.operation a b row.left row.right row.result (alone a _ _ tt p) (alone b _ _ tt q) g
      go _ _ _ row (two.identified c o t u d e) s g p q =
          exactly defs row.operation a b row.left row.right row.result (own a t p) (own b u q) g
      go _ _ _ row (two.with_nil c o t d e f) s g p q =
          exactly defs row.operation a b row.left row.right row.result (own a t p) (of_nil b t q) g
      go _ _ _ row (two.nil_with c o t d e f) s g p q =
          exactly defs row.operation a b row.left row.right row.result (of_nil a t p) (own b t q) g
      go _ _ _ row (two.puts t u item joined d e f) s g p q = (joined, p.0, alone b _ _ tt q, refl)
      go _ _ _ row (two.puts_open t u item joined d e f) s g p q = absurd s

  -- ---- rows for one operand

  pub one_settled : (defs : List Def) (o : UnaryOp) (t : Ty) (row : OneRow) → UnaryRow defs o t row → IsSettled row.result
  one_settled defs _ _ _ (one.altered o u k e) = kind_settled k
  one_settled defs _ _ _ one.denied = tt
  one_settled defs _ _ _ (one.head t s) = s
  one_settled defs _ _ _ (one.tail t s) = s
  one_settled defs _ _ _ (one.UnaryRow.length q t i s) = tt
  one_settled defs _ _ _ (one.UnaryRow.tag n t r i) = tt
  one_settled defs _ _ _ (one.converted o from to e) = kind_settled to
  one_settled defs _ _ _ (one.read_number o to t e n i) = kind_settled to
  one_settled defs _ _ _ (one.number_text k) = tt
  one_settled defs _ _ _ one.bytes_text = tt
  one_settled defs _ _ _ one.nil_text = tt

  pub one_named : (defs : List Def) (o : UnaryOp) (t : Ty) (row : OneRow) → UnaryRow defs o t row → HasNames m t → IsNamed m row.operand
  one_named defs _ _ _ (one.altered o u k e) h = kind_named k
  one_named defs _ _ _ one.denied h = (tt, tt)
  one_named defs _ _ _ (one.head t s) h = (h, s)
  one_named defs _ _ _ (one.tail t s) h = (h, s)
  one_named defs _ _ _ (one.UnaryRow.length q t i s) h = (h, s)
  one_named defs _ _ _ (one.UnaryRow.tag n t r i) h = (h, ref_settled n t r)
  one_named defs _ _ _ (one.converted o from to e) h = kind_named from
  one_named defs _ _ _ (one.read_number o to t e n i) h = (tt, tt)
  one_named defs _ _ _ (one.number_text k) h = kind_named k
  one_named defs _ _ _ one.bytes_text h = (tt, tt)
  one_named defs _ _ _ one.nil_text h = (tt, tt)

  as_one_asked : (defs : List Def) (o : UnaryOp) (t : Ty) (row : OneRow) → UnaryRow defs o t row → (a : Ty) → IsAsked a row.operand t
      → a ≡ row.operand
  as_one_asked defs _ _ _ (one.altered o u k e) a p = alone a _ _ (kind_plain k) p
  as_one_asked defs _ _ _ one.denied a p = alone a _ _ tt p
  as_one_asked defs _ _ _ (one.head t s) a p = alone a _ _ tt p
  as_one_asked defs _ _ _ (one.tail t s) a p = alone a _ _ tt p
  as_one_asked defs _ _ _ (one.UnaryRow.length q t i s) a p = own a t p
  as_one_asked defs _ _ _ (one.UnaryRow.tag n t r i) a p = own a t p
  as_one_asked defs _ _ _ (one.converted o from to e) a p = alone a _ _ (kind_plain from) p
  as_one_asked defs _ _ _ (one.read_number o to t e n i) a p = alone a _ _ tt p
  as_one_asked defs _ _ _ (one.number_text k) a p = alone a _ _ (kind_plain k) p
  as_one_asked defs _ _ _ one.bytes_text a p = alone a _ _ tt p
  as_one_asked defs _ _ _ one.nil_text a p = alone a _ _ tt p

  pub one_gives : (defs : List Def) (o : UnaryOp) (t : Ty) (row : OneRow) → UnaryRow defs o t row → (a : Ty) → IsAsked a row.operand t
      → Gives defs row.operation (a ∷ []) row.result
  one_gives defs o t row h a p =
      subst (λ (z : Ty). Gives defs row.operation (z ∷ []) row.result) (sym (as_one_asked defs o t row h a p)) (unary_gives defs o t row h)

  pub bytes_named : (t : Ty) (row : OneRow) → BytesRow t row → IsNamed m row.operand × IsNamed m row.result
  bytes_named _ _ (one.text_bytes t i) = ((tt, tt), (tt, tt))

  bytes_asked : (t : Ty) (row : OneRow) → BytesRow t row → (a : Ty) → IsAsked a row.operand t → a ≡ row.operand
  bytes_asked _ _ (one.text_bytes t i) a p = alone a _ _ tt p

  pub bytes_given : (defs : List Def) (t : Ty) (row : OneRow) → BytesRow t row → (a : Ty) → IsAsked a row.operand t
      → Gives defs row.operation (a ∷ []) row.result
  bytes_given defs t row h a p =
      subst (λ (z : Ty). Gives defs row.operation (z ∷ []) row.result) (sym (bytes_asked t row h a p)) (bytes_give defs t row h)
