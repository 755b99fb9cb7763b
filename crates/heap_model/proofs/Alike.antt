-- Of two heaps that stand alike, a value stays exactly where its block does.
use Rattle.std.proofs.Common.{◌≡◌, ℕ, zero, suc, ◌<◌, Bool, true, false, List, Option, Some, None, refl, sym, ap, subst, ◌∙◌, arith, ◌⊎◌, inl, inr}
use Rattle.heap_model.specs.Kept.{Graph, Held, IsKept, Path, here, on, Reached}
use Rattle.heap_model.specs.Facts.{Fact, Named, Chars, Part, Bare, Carrier, Facts, IsFree, IsInner, Is, Free, Inner, Refers, itself, slice, Covers, refers, chars}
use Rattle.heap_model.specs.Alike.{SameHeaps, SameRoots, Chain, word, next}
use Rattle.heap_model.proofs.Kept.{held_more, reached_kept}

-- what is known of a block, by cases
pub data Known {B F : Type 0} (k : Facts B F) (q : ℕ) : Type 0 where
  is_named : (m : ℕ) → Is k m q → Known k q
  is_text : (t : List ℕ) → k.fact q ≡ Some (Chars t) → Known k q
  is_part : (m s l : ℕ) → k.fact q ≡ Some (Part m s l) → Known k q
  is_free : Free k q → Known k q
  is_carrier : (d : B) → k.fact q ≡ Some (Carrier d) → Known k q

pub known : {B F : Type 0} (k : Facts B F) (q : ℕ) → Known k q
known {B = B} k q = go (k.fact q) refl
  where
    go : (f : Option (Fact B)) → k.fact q ≡ f → Known k q
    go None e = is_free (subst IsFree (sym e) tt)
    go (Some (Named m)) e = is_named m e
    go (Some (Chars t)) e = is_text t e
    go (Some (Part m s l)) e = is_part m s l e
    go (Some (Carrier ws)) e = is_carrier ws e
    go (Some Bare) e = is_free (subst IsFree (sym e) tt)

name_in : {B : Type 0} → Option (Fact B) → ℕ
name_in (Some (Named m)) = m
name_in (Some (Part m s l)) = m
name_in _ = 0

pub same_name : {B F : Type 0} (k : Facts B F) (m m' q : ℕ) → Is k m q → Is k m' q → m ≡ m'
unfolding name_in
same_name k m m' q a b = ap name_in (sym a ∙ b)

same_part : {B F : Type 0} (k : Facts B F) (m s l m' s' l' q : ℕ) → k.fact q ≡ Some (Part m s l) → k.fact q ≡ Some (Part m' s' l') → m ≡ m'
unfolding name_in
same_part k m s l m' s' l' q a b = ap name_in (sym a ∙ b)

refers_itself : {B F : Type 0} (k : Facts B F) (m m' q : ℕ) → Is k m q → Refers k m' q → m' ≡ m
refers_itself k m m' q e (itself f) = same_name k m' m q f e
refers_itself k m m' q e (slice s l f) = absurd cc

refers_part : {B F : Type 0} (k : Facts B F) (m s l m' q : ℕ) → k.fact q ≡ Some (Part m s l) → Refers k m' q → m' ≡ m
refers_part k m s l m' q e (itself f) = absurd cc
refers_part k m s l m' q e (slice s' l' f) = same_part k m' s' l' m s l q f e

free_not : {B F : Type 0} (k : Facts B F) (q : ℕ) (f : Fact B) → Free k q → k.fact q ≡ Some f → IsFree (Some f)
free_not k q f h e = subst IsFree e h

refers_not_free : {B F : Type 0} (k : Facts B F) (m q : ℕ) → Free k q → Refers k m q → ⊥
refers_not_free k m q h (itself e) = free_not k q _ h e
refers_not_free k m q h (slice s l e) = free_not k q _ h e

pub covers_not_free : {B F : Type 0} (k : Facts B F) (named : ℕ → Type 0) (q : ℕ) → Free k q → Covers k named q → ⊥
covers_not_free k named q h (refers m n r) = refers_not_free k m q h r
covers_not_free k named q h (chars t e) = free_not k q _ h e

-- what accounts for a reference to a heap value's block, or to part of it, names this value
pub covers_named : {B F : Type 0} (k : Facts B F) (named : ℕ → Type 0) (m q : ℕ) → Is k m q → Covers k named q → named m
covers_named k named m q e (refers m' n r) = subst named (refers_itself k m m' q e r) n
covers_named k named m q e (chars t f) = absurd cc

pub covers_part : {B F : Type 0} (k : Facts B F) (named : ℕ → Type 0) (m s l q : ℕ) → k.fact q ≡ Some (Part m s l) → Covers k named q → named m
covers_part k named m s l q e (refers m' n r) = subst named (refers_part k m s l m' q e r) n
covers_part k named m s l q e (chars t f) = absurd cc

inner_not : {B F : Type 0} (k : Facts B F) (q : ℕ) (f : Fact B) → Inner k q → k.fact q ≡ Some f → IsInner (Some f)
inner_not k q f h e = subst IsInner e h

pub is_inner : {B : Type 0} (o : Option (Fact B)) → IsFree o → IsInner o
is_inner None f = tt
is_inner (Some Bare) f = tt
is_inner (Some (Named m)) f = absurd f
is_inner (Some (Chars t)) f = absurd f
is_inner (Some (Part m s l)) f = absurd f
is_inner (Some (Carrier ws)) f = absurd f

pub covers_not_inner : {B F : Type 0} (k : Facts B F) (named : ℕ → Type 0) (q : ℕ) → Inner k q → Covers k named q → ⊥
covers_not_inner k named q h (refers m n (itself e)) = inner_not k q _ h e
covers_not_inner k named q h (refers m n (slice s l e)) = inner_not k q _ h e
covers_not_inner k named q h (chars t e) = inner_not k q _ h e

pub chain_reached : {B F : Type 0} (k : Facts B F) (h : Graph) (words : ℕ → ℕ) (q : ℕ) → Chain k h words q → Reached h words q
chain_reached k h words q (word w) = record { root = q; is = w; way = here }
chain_reached k h words q (next {a = a} c f l u) = let r = chain_reached k h words a c in record { root = r.root; is = r.is; way = on r.way l u }

module _ {B F : Type 0} (k : Facts B F) (g h : Graph) (names words : ℕ → ℕ) (heaps : SameHeaps k g h) (roots : SameRoots k h names words) where
  module _ (sources blocks : ℕ → Bool) (is : IsKept g names sources) (its : IsKept h words blocks) where
    -- why a block stays
    data Why (q : ℕ) : Type 0 where
      owned : 0 < roots.own q → Why q
      inside : (m a : ℕ) → Is k m a → blocks a ≡ true → 0 < h.uses a q → Why q
      sliced : (m s l a : ℕ) → k.fact a ≡ Some (Part m s l) → blocks a ≡ true → 0 < h.uses a q → Why q

    owned_free : (fuel a : ℕ) → a < fuel → Free k a → blocks a ≡ true → 0 < roots.own a
    owned_free zero a l f b = absurd (omega arith)
    owned_free (suc fuel) a l f b = go (its.held a b)
        (λ c d fc bc u. roots.within c a (owned_free fuel c (let e = heaps.frees c a fc f (its.alive c bc) u in omega arith) fc bc) (is_inner _ fc) u)
      where
        go : Held h words (λ a. blocks a ≡ true) a → ((c : ℕ) (d : Unit {0}) → Free k c → blocks c ≡ true → 0 < h.uses c a → 0 < roots.own a) → 0 < roots.own a
        go (inl r) onward = roots.roots a r
        go (inr (c, bc, u)) onward = by (known k c)
          where
            by : Known k c → 0 < roots.own a
            by (is_named m e) = absurd (covers_not_free k _ a f (heaps.from m c a e (its.alive c bc) u))
            by (is_text t e) = absurd (heaps.strings c a t e (its.alive c bc) u)
            by (is_part m s l' e) = absurd (free_not k a _ f (heaps.parts_only c m s l' a e (its.alive c bc) u))
            by (is_free fc) = onward c tt fc bc u
            by (is_carrier ws e) = absurd (heaps.carriers c a ws e (its.alive c bc) u (is_inner _ f))

    owned_carrier : (a : ℕ) (d : B) → k.fact a ≡ Some (Carrier d) → blocks a ≡ true → 0 < roots.own a
    owned_carrier a ws e b = go (its.held a b)
      where
        inner : Inner k a
        inner = subst IsInner (sym e) tt

        go : Held h words (λ a. blocks a ≡ true) a → 0 < roots.own a
        go (inl r) = roots.roots a r
        go (inr (c, bc, u)) = by (known k c)
          where
            by : Known k c → 0 < roots.own a
            by (is_named m f) = absurd (covers_not_inner k _ a inner (heaps.from m c a f (its.alive c bc) u))
            by (is_text t f) = absurd (heaps.strings c a t f (its.alive c bc) u)
            by (is_part m s l f) = absurd (inner_not k a _ inner (heaps.parts_only c m s l a f (its.alive c bc) u))
            by (is_free fc) = roots.within c a (owned_free (suc c) c (omega arith) fc bc) (is_inner _ fc) u
            by (is_carrier vs f) = absurd (heaps.carriers c a vs f (its.alive c bc) u inner)

    why : (q : ℕ) → blocks q ≡ true → Why q
    why q b = go (its.held q b)
      where
        go : Held h words (λ a. blocks a ≡ true) q → Why q
        go (inl r) = owned (roots.roots q r)
        go (inr (c, bc, u)) = by (known k c)
          where
            by : Known k c → Why q
            by (is_named m e) = inside m c e bc u
            by (is_text t e) = absurd (heaps.strings c q t e (its.alive c bc) u)
            by (is_part m s l e) = sliced m s l c e bc u
            by (is_free f) = owned (roots.within c q (owned_free (suc c) c (omega arith) f bc) (is_inner _ f) u)
            by (is_carrier ws e) = owned (roots.within c q (owned_carrier c ws e bc) (subst IsInner (sym e) tt) u)

    -- a heap value whose block stays
    record Stays (m : ℕ) : Type 0 where
      block : ℕ
      stands : Is k m block
      stays : blocks block ≡ true

    own_named : (m q : ℕ) → Is k m q → 0 < roots.own q → 0 < names m
    own_named m q e o = elim (roots.covers q o) [ inl f ↦ absurd (inner_not k q _ f e) | inr c ↦ covers_named k _ m q e c ]

    own_part : (m s l q : ℕ) → k.fact q ≡ Some (Part m s l) → 0 < roots.own q → 0 < names m
    own_part m s l q e o = elim (roots.covers q o) [ inl f ↦ absurd (inner_not k q _ f e) | inr c ↦ covers_part k _ m s l q e c ]

    stays_held : (m : ℕ) → Stays m → Held g names Stays m
    stays_held m s = go (why s.block s.stays)
      where
        go : Why s.block → Held g names Stays m
        go (owned o) = inl (own_named m s.block s.stands o)
        go (inside m' a e b u) = inr (m', record { block = a; stands = e; stays = b }, covers_named k _ m s.block s.stands (heaps.from m' a s.block e (its.alive a b) u))
        go (sliced m' st l a e b u) = by (why a b)
          where
            same : m' ≡ m
            same = same_name k m' m s.block (heaps.parts_only a m' st l s.block e (its.alive a b) u) s.stands

            by : Why a → Held g names Stays m
            by (owned o) = inl (subst (λ x. 0 < names x) same (own_part m' st l a e o))
            by (inside m2 c e2 b2 u2) = inr (m2, record { block = c; stands = e2; stays = b2 }, subst (λ x. 0 < g.uses m2 x) same (covers_part k _ m' st l a e (heaps.from m2 c a e2 (its.alive c b2) u2)))
            by (sliced m2 s2 l2 c e2 b2 u2) = absurd (let w : Is k m2 a = heaps.parts_only c m2 s2 l2 a e2 (its.alive c b2) u2 in cc)

    pub stays_back : (m n : ℕ) → Is k m n → blocks n ≡ true → sources m ≡ true
    stays_back m n e b = is.greatest Stays (λ m s. (heaps.here m s.block s.stands (its.alive s.block s.stays), stays_held m s)) m (record { block = n; stands = e; stays = b })

    -- a block that is reached from that of a heap value that stays
    record Under (q : ℕ) : Type 0 where
      name : ℕ
      stays : sources name ≡ true
      block : ℕ
      stands : Is k name block
      way : Path h block q

    block_live : (m n : ℕ) → Is k m n → g.live m ≡ true → h.live n ≡ true
    block_live m n e l = let t = heaps.there m l in subst (λ x. h.live x ≡ true) (k.once m t.0 n t.1 e) t.2

    path_live : (a q : ℕ) → h.live a ≡ true → Path h a q → h.live q ≡ true
    path_live a q l here = l
    path_live a q l (on {b = b} p lb u) = heaps.closed.closed b q lb u

    pub own_kept : (q : ℕ) → 0 < roots.own q → blocks q ≡ true
    own_kept q o = reached_kept h words blocks its heaps.closed (λ a u. roots.live a (roots.roots a u)) q (chain_reached k h words q (roots.way q o))

    abbrev Or : ℕ → Type 0
    Or q = (blocks q ≡ true) ⊎ Under q

    held_block : (q : ℕ) → blocks q ≡ true → Held h words Or q
    held_block q b = held_more h words blocks its (λ a. blocks a ≡ true) Or q (λ a x. inl x) (its.held q b)

    held_named : (m n : ℕ) → sources m ≡ true → Is k m n → Held h words Or n
    held_named m n s e = go (is.held m s)
      where
        go : Held g names (λ a. sources a ≡ true) m → Held h words Or n
        go (inl r) = by (roots.to m r)
          where
            by : (q : ℕ) × (0 < roots.own q) × Refers k m q → Held h words Or n
            by (q, o, itself f) = held_block n (subst (λ x. blocks x ≡ true) (k.once m q n f e) (own_kept q o))
            by (q, o, slice st l f) =
                let b = own_kept q o in
                let p = heaps.parts q m st l f (its.alive q b) in
                inr (q, inl b, subst (λ x. 0 < h.uses q x) (k.once m p.0 n p.1 e) p.2)
        go (inr (m', s', u)) = by (heaps.to m' t.0 m t.1 (is.alive m' s') u)
          where
            t : (n : ℕ) × Is k m' n × (h.live n ≡ true)
            t = heaps.there m' (is.alive m' s')

            by : (q : ℕ) × (0 < h.uses t.0 q) × Refers k m q → Held h words Or n
            by (q, v, itself f) = inr (t.0, inr (record { name = m'; stays = s'; block = t.0; stands = t.1; way = here }), subst (λ x. 0 < h.uses t.0 x) (k.once m q n f e) v)
            by (q, v, slice st l f) =
                let p = heaps.parts q m st l f (heaps.closed.closed t.0 q t.2 v) in
                inr (q, inr (record { name = m'; stays = s'; block = t.0; stands = t.1; way = on here t.2 v }), subst (λ x. 0 < h.uses q x) (k.once m p.0 n p.1 e) p.2)

    held_under : (q m : ℕ) → sources m ≡ true → (n : ℕ) → Is k m n → Path h n q → Held h words Or q
    held_under q m s n e here = held_named m n s e
    held_under q m s n e (on {b = b} p l u) = inr (b, inr (record { name = m; stays = s; block = n; stands = e; way = p }), u)

    or_stays : (q : ℕ) → Or q → (h.live q ≡ true) × Held h words Or q
    or_stays q (inl b) = (its.alive q b, held_block q b)
    or_stays q (inr u) = (path_live u.block q (block_live u.name u.block u.stands (is.alive u.name u.stays)) u.way, held_under q u.name u.stays u.block u.stands u.way)

    pub stays_on : (m n : ℕ) → Is k m n → sources m ≡ true → blocks n ≡ true
    stays_on m n e s = its.greatest Or or_stays n (inr (record { name = m; stays = s; block = n; stands = e; way = here }))

    alike : (a b : Bool) → (a ≡ true → b ≡ true) → (b ≡ true → a ≡ true) → a ≡ b
    alike true b f g = sym (f refl)
    alike false true f g = g refl
    alike false false f g = refl

    -- a heap value stays exactly where its block does
    pub stay_alike : (m n : ℕ) → Is k m n → sources m ≡ blocks n
    stay_alike m n e = alike (sources m) (blocks n) (stays_on m n e) (stays_back m n e)
