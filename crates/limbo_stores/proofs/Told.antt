-- What is told of stores, put together.
use Rattle.std.proofs.Common.{◌≡◌, ℕ, Bool, true, false, ◌⊎◌, inl, inr, IsTrue, ◌↔◌, List, Option, Some, None, refl, sym, ap, subst}
use Rattle.std.specs.Prelude.{Decides}
use Rattle.std.proofs.lemmas.Bool.Decides.{Decides-eqb, Decides-or}
use Rattle.limbo_types.specs.Types.{Ty, Adt}
use Rattle.limbo_layout.specs.Adts.{Def}
use Rattle.limbo_typed.specs.declared.operation.Operation.{Operation}
use Rattle.limbo_typed.specs.declared.operation.Given.{Given}
use Rattle.limbo_typed.specs.Typed.{Expr, Node, Assign, Update, Step, Copy, Send, Place, At, PlaceNode, Field}
use Rattle.limbo_typed.specs.Typed.{Character, Pattern, ToPlace, ToNothing, ToParts, Patterns, NoPatterns, MorePatterns}
use Rattle.limbo_typed.specs.Sound.{type_of}
use Rattle.limbo_refusals.specs.Refusals.{Refusal, NotPlace, CyclicStore}
use Rattle.limbo_stores.specs.declared.outcome.Store.{Store}
use Rattle.limbo_stores.specs.declared.outcome.Store.TheVariants.{Allowed, Opaque, Cyclic}
use Rattle.limbo_stores.specs.Stores.{CanClose, IsOfFd, LiesInFd, StandsInFd, RefusesPlace, RefusesPattern}
use Rattle.limbo_stores.specs.Stores.{StoresInto, CopyCloses, SendCloses}
use Rattle.limbo_stores.specs.Stores.{Closes, by_place, by_copy, by_send, RefusesStore}
use Rattle.limbo_stores.specs.Telling.{Tells}
use Rattle.limbo_stores.specs.Choosing.{is_number, is_of_fd, lies_in_fd, stands_in_fd, with_cyclic, worse, closing}
use Rattle.limbo_stores.proofs.Nodes.{StoresNothing}

-- ---- an `FD`

never : {P : Type 0} → (P → ⊥) → Decides false P
never not_so = (λ e. absurd cc, λ p. absurd (not_so p))

number : (o : Option ℕ) (n : ℕ) → Decides (is_number o n) (o ≡ Some n)
number (Some m) n = let d = Decides-eqb m n in (λ e. ap Some (d.0 e), λ e. d.1 (let f : m ≡ n = cc in f))
number None n = never (λ e. cc)

of_fd : (fd : Option ℕ) (t : Ty) → Decides (is_of_fd fd t) (IsOfFd fd t)
of_fd fd (Adt n) = number fd n
of_fd fd _ = never (λ h. h)

mutual
  pub in_fd : (fd : Option ℕ) (p : Place) → Decides (lies_in_fd fd p) (LiesInFd fd p)
  in_fd fd (At t n) = Decides-or (is_of_fd fd t) (stands_in_fd fd n) (of_fd fd t) (stands_fd fd n)

  stands_fd : (fd : Option ℕ) (n : PlaceNode) → Decides (stands_in_fd fd n) (StandsInFd fd n)
  stands_fd fd (Field p k) = in_fd fd p
  stands_fd fd (Character p i) = in_fd fd p
  stands_fd fd _ = never (λ h. h)

-- ---- places

pub place_opaque : (defs : List Def) (fd : Option ℕ) (p : Place) → true ≡ lies_in_fd fd p → Tells Opaque (RefusesPlace defs fd p)
place_opaque defs fd p e = (in_fd fd p).0 (sym e)

not_in_fd : (fd : Option ℕ) (p : Place) → false ≡ lies_in_fd fd p → LiesInFd fd p → ⊥
not_in_fd fd p e h = let f : lies_in_fd fd p ≡ true = (in_fd fd p).1 h in cc

pub place_cyclic :
    (defs : List Def) (fd : Option ℕ) (p : Place) → false ≡ lies_in_fd fd p → CanClose defs p → Tells Cyclic (RefusesPlace defs fd p)
place_cyclic defs fd p e h = (not_in_fd fd p e, h)

pub place_allowed :
    (defs : List Def) (fd : Option ℕ) (p : Place) → false ≡ lies_in_fd fd p → (CanClose defs p → ⊥) → Tells Allowed (RefusesPlace defs fd p)
place_allowed defs fd p e never NotPlace h = not_in_fd fd p e h
place_allowed defs fd p e never CyclicStore h = never h
place_allowed defs fd p e never _ h = h

pub not_true : {P : Type 0} → IsTrue false ↔ P → P → ⊥
not_true h p = let e : false ≡ true = h.1 p in cc

-- ---- of another subject, and of two together

pub like : (P Q : Refusal → Type 0) (s : Store) → ((r : Refusal) → P r → Q r) → ((r : Refusal) → Q r → P r) → Tells s P → Tells s Q
like P Q Allowed f g h = λ r q. h r (g r q)
like P Q Opaque f g h = f NotPlace h
like P Q Cyclic f g h = (λ q. h.0 (g NotPlace q), f CyclicStore h.1)

both_cyclic : (P Q : Refusal → Type 0) (s : Store) → Tells Cyclic P → Tells s Q → Tells (with_cyclic s) (λ r. P r ⊎ Q r)
both_cyclic P Q Allowed h k = (λ q. elim q [ inl p ↦ h.0 p | inr p ↦ k NotPlace p ], inl h.1)
both_cyclic P Q Opaque h k = inr k
both_cyclic P Q Cyclic h k = (λ q. elim q [ inl p ↦ h.0 p | inr p ↦ k.0 p ], inl h.1)

both_allowed : (P Q : Refusal → Type 0) (s : Store) → Tells Allowed P → Tells s Q → Tells s (λ r. P r ⊎ Q r)
both_allowed P Q Allowed h k = λ r q. elim q [ inl p ↦ h r p | inr p ↦ k r p ]
both_allowed P Q Opaque h k = inr k
both_allowed P Q Cyclic h k = (λ q. elim q [ inl p ↦ h NotPlace p | inr p ↦ k.0 p ], inr k.1)

pub both : (P Q : Refusal → Type 0) (a b : Store) → Tells a P → Tells b Q → Tells (worse a b) (λ r. P r ⊎ Q r)
both P Q Allowed b h k = both_allowed P Q b h k
both P Q Opaque b h k = inl h
both P Q Cyclic b h k = both_cyclic P Q b h k

pub worse_assoc : (a b c : Store) → worse (worse a b) c ≡ worse a (worse b c)
worse_assoc Allowed b c = refl
worse_assoc Opaque b c = refl
worse_assoc Cyclic Allowed c = refl
worse_assoc Cyclic Opaque c = refl
worse_assoc Cyclic Cyclic Allowed = refl
worse_assoc Cyclic Cyclic Opaque = refl
worse_assoc Cyclic Cyclic Cyclic = refl

pub worse_allowed : (a : Store) → worse a Allowed ≡ a
worse_allowed Allowed = refl
worse_allowed Opaque = refl
worse_allowed Cyclic = refl

-- ---- patterns

pub to_place :
    (defs : List Def) (fd : Option ℕ) (p : Place) (s : Store) → Tells s (RefusesPlace defs fd p)
    → Tells s (RefusesPattern defs fd (ToPlace p))
to_place defs fd p s h = like _ _ s (λ r q. (p, refl, q)) (λ r q. subst (λ (z : Place). RefusesPlace defs fd z r) (sym q.1) q.2) h

pub to_nothing : (defs : List Def) (fd : Option ℕ) → Tells Allowed (RefusesPattern defs fd ToNothing)
to_nothing defs fd r q = q.1

pub to_none : (defs : List Def) (fd : Option ℕ) → Tells Allowed (RefusesPattern defs fd (ToParts NoPatterns))
to_none defs fd r q = q.1

pub to_more :
    (defs : List Def) (fd : Option ℕ) (p : Pattern) (ps : Patterns) (a b : Store) → Tells a (RefusesPattern defs fd p)
    → Tells b (RefusesPattern defs fd (ToParts ps)) → Tells (worse a b) (RefusesPattern defs fd (ToParts (MorePatterns p ps)))
to_more defs fd p ps a b h k = like _ _ (worse a b)
    (λ r q. elim q [ inl i ↦ (i.0, inl i.1, i.2) | inr i ↦ (i.0, inr i.1, i.2) ])
    (λ r q. elim q.1 [ inl i ↦ inl (q.0, i, q.2) | inr i ↦ inr (q.0, i, q.2) ])
    (both (RefusesPattern defs fd p) (RefusesPattern defs fd (ToParts ps)) a b h k)

-- ---- expressions

module _ (defs : List Def) (fd : Option ℕ) where
  abbrev Says : Store → Node → Type 0
  Says s n = Tells s (RefusesStore defs fd n)

  assign_back : (q : Pattern) (e : Expr) (r : Refusal) → RefusesStore defs fd (Assign q e) r → RefusesPattern defs fd q r
  assign_back q e NotPlace h = (h.place, h.stores, h.inside)
  assign_back q e CyclicStore (by_place _ p s c) = (p, s, c)
  assign_back q e _ h = absurd h

  assign_on : (q : Pattern) (e : Expr) (r : Refusal) → RefusesPattern defs fd q r → RefusesStore defs fd (Assign q e) r
  assign_on q e NotPlace h = record { place = h.0; stores = h.1; inside = h.2 }
  assign_on q e CyclicStore h = by_place (Assign q e) h.0 h.1 h.2
  assign_on q e _ h = absurd h.2

  pub assigned : (q : Pattern) (e : Expr) (s : Store) → Tells s (RefusesPattern defs fd q) → Says s (Assign q e)
  assigned q e s h = like _ _ s (assign_on q e) (assign_back q e) h

  at_place : (p q : Place) (r : Refusal) → p ≡ q → RefusesPlace defs fd q r → RefusesPlace defs fd p r
  at_place p q r e h = subst (λ (z : Place). RefusesPlace defs fd z r) (sym e) h

  update_back : (o : Operation) (p : Place) (e : Expr) (r : Refusal) → RefusesStore defs fd (Update o p e) r → RefusesPlace defs fd p r
  update_back o p e NotPlace h = at_place p h.place NotPlace h.stores h.inside
  update_back o p e CyclicStore (by_place _ q s c) = at_place p q CyclicStore s c
  update_back o p e _ h = absurd h

  update_on : (o : Operation) (p : Place) (e : Expr) (r : Refusal) → RefusesPlace defs fd p r → RefusesStore defs fd (Update o p e) r
  update_on o p e NotPlace h = record { place = p; stores = refl; inside = h }
  update_on o p e CyclicStore h = by_place (Update o p e) p refl h
  update_on o p e _ h = absurd h

  pub updated : (o : Operation) (p : Place) (e : Expr) (s : Store) → Tells s (RefusesPlace defs fd p) → Says s (Update o p e)
  updated o p e s h = like _ _ s (update_on o p e) (update_back o p e) h

  step_back : (o : Operation) (g : Given) (p : Place) (r : Refusal) → RefusesStore defs fd (Step o g p) r → RefusesPlace defs fd p r
  step_back o g p NotPlace h = at_place p h.place NotPlace h.stores h.inside
  step_back o g p CyclicStore (by_place _ q s c) = at_place p q CyclicStore s c
  step_back o g p _ h = absurd h

  step_on : (o : Operation) (g : Given) (p : Place) (r : Refusal) → RefusesPlace defs fd p r → RefusesStore defs fd (Step o g p) r
  step_on o g p NotPlace h = record { place = p; stores = refl; inside = h }
  step_on o g p CyclicStore h = by_place (Step o g p) p refl h
  step_on o g p _ h = absurd h

  pub stepped : (o : Operation) (g : Given) (p : Place) (s : Store) → Tells s (RefusesPlace defs fd p) → Says s (Step o g p)
  stepped o g p s h = like _ _ s (step_on o g p) (step_back o g p) h

  copy_closes : (a i e : Expr) → Closes defs (Copy a i e) → CopyCloses defs (type_of a)
  copy_closes a i e (by_place _ p s c) = absurd s
  copy_closes a i e (by_copy _ _ _ c) = c

  send_closes : (c e : Expr) → Closes defs (Send c e) → SendCloses defs (type_of c)
  send_closes c e (by_place _ p s k) = absurd s
  send_closes c e (by_send _ _ k) = k

  -- what isn't a place's refusal
  no_other : (n : Node) → ((p : Place) → StoresInto n p → ⊥) → (Closes defs n → ⊥) → (r : Refusal) → RefusesStore defs fd n r → ⊥
  no_other n p0 p1 NotPlace h = p0 h.place h.stores
  no_other n p0 p1 CyclicStore h = p1 h
  no_other n p0 p1 _ h = h

  by_test : (n : Node) (b : Bool) → ((p : Place) → StoresInto n p → ⊥) → Decides b (Closes defs n) → Says (closing b) n
  by_test n true p0 d = (λ h. p0 h.place h.stores, d.0 refl)
  by_test n false p0 d = no_other n p0 (λ h. let e : false ≡ true = d.1 h in cc)

  pub copied : (a i e : Expr) (b : Bool) → IsTrue b ↔ CopyCloses defs (type_of a) → Says (closing b) (Copy a i e)
  copied a i e b h = by_test (Copy a i e) b (λ p s. s) (λ t. by_copy a i e (h.0 t), λ c. h.1 (copy_closes a i e c))

  pub sent : (c e : Expr) (b : Bool) → IsTrue b ↔ SendCloses defs (type_of c) → Says (closing b) (Send c e)
  sent c e b h = by_test (Send c e) b (λ p s. s) (λ t. by_send c e (h.0 t), λ k. h.1 (send_closes c e k))

  stores_none : (n : Node) → StoresNothing n → (q : Place) → StoresInto n q → ⊥
  stores_none (Assign p e) h q s = h
  stores_none (Update o p e) h q s = h
  stores_none (Step o g p) h q s = h
  stores_none _ h q s = s

  nothing_closes : (n : Node) → StoresNothing n → Closes defs n → ⊥
  nothing_closes n h (by_place _ p s c) = stores_none n h p s
  nothing_closes _ h (by_copy a i e c) = h
  nothing_closes _ h (by_send c e k) = h

  pub nothing_stored : (n : Node) → StoresNothing n → Says Allowed n
  nothing_stored n h = no_other n (stores_none n h) (nothing_closes n h)
