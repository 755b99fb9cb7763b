-- An access to one memory follows an access to another: where the first finds something, so does the second, and what it raises, the
-- second raises. Where the first is wrong, the second may do anything.
use Rattle.std.proofs.Common.{◌≡◌, ℕ, Bool, true, false, List, refl, if◌then◌else◌}
use Rattle.std.specs.Prelude.{Option, Some, None}
use Rattle.dis_meaning.specs.Words.{Access, Found, Wrong, Raises, ◌>>=◌, or_wrong}

pub data Follows {S T : Type 0} (R : S → T → Type 0) : Access S → Access T → Type 0 where
  found : (s : S) (t : T) → R s t → Follows R (Found s) (Found t)
  wrong : (n : ℕ) (b : Access T) → Follows R (Wrong n) b
  raises : (text : List ℕ) → Follows R (Raises text) (Raises text)

-- The same is found.
pub data Same {T : Type 0} : Access T → Access T → Type 0 where
  finds : (t : T) → Same (Found t) (Found t)
  fails : (n : ℕ) (b : Access T) → Same (Wrong n) b
  throws : (text : List ℕ) → Same (Raises text) (Raises text)

pub itself : {T : Type 0} (a : Access T) → Same a a
itself (Found t) = finds t
itself (Wrong n) = fails n (Wrong n)
itself (Raises text) = throws text

-- What follows each is done with what was found.
pub chain : {S T U V : Type 0} {R : S → T → Type 0} {Q : U → V → Type 0} {a : Access S} {b : Access T} (f : S → Access U) (g : T → Access V)
    → Follows R a b → ((s : S) (t : T) → a ≡ Found s → b ≡ Found t → R s t → Follows Q (f s) (g t)) → Follows Q (a >>= f) (b >>= g)
chain f g (found s t r) h = h s t refl refl r
chain f g (wrong n b) h = wrong n (b >>= g)
chain f g (raises text) h = raises text

pub with_same : {S U V : Type 0} {Q : U → V → Type 0} {a b : Access S} (f : S → Access U) (g : S → Access V) → Same a b
    → ((s : S) → a ≡ Found s → b ≡ Found s → Follows Q (f s) (g s)) → Follows Q (a >>= f) (b >>= g)
with_same f g (finds s) h = h s refl refl
with_same f g (fails n b) h = wrong n (b >>= g)
with_same f g (throws text) h = raises text

pub on : {S T : Type 0} {a b : Access S} (f g : S → Access T) → Same a b → ((s : S) → a ≡ Found s → b ≡ Found s → Same (f s) (g s))
    → Same (a >>= f) (b >>= g)
on f g (finds s) h = h s refl refl
on f g (fails n b) h = fails n (b >>= g)
on f g (throws text) h = throws text

pub either_way : {T : Type 0} (c : Bool) {a a' b b' : Access T} → Same a a' → Same b b' → Same (if c then a else b) (if c then a' else b')
either_way true s t = s
either_way false s t = t

-- An access that raises nothing.
abbrev pub Calm : {T : Type 0} → Access T → Type 0
Calm (Found t) = Unit {0}
Calm (Wrong n) = Unit {0}
Calm (Raises text) = ⊥

pub calm_then : {S T : Type 0} (a : Access S) (f : S → Access T) → Calm a → ((s : S) → Calm (f s)) → Calm (a >>= f)
calm_then (Found s) f c h = h s
calm_then (Wrong n) f c h = tt
calm_then (Raises text) f c h = c

pub calm_or : {T : Type 0} (number : ℕ) (o : Option T) → Calm (or_wrong number o)
calm_or number None = tt
calm_or number (Some t) = tt

-- What the first looks at besides.
pub besides : {S U V : Type 0} {Q : U → V → Type 0} (a : Access S) (f : S → Access U) (b : Access V) → Calm a
    → ((s : S) → a ≡ Found s → Follows Q (f s) b) → Follows Q (a >>= f) b
besides (Found s) f b c h = h s refl
besides (Wrong n) f b c h = wrong n b
besides (Raises text) f b c h = absurd c
