-- What is sent, received and loaded is what the definitions say.
use Rattle.std.proofs.Common.{◌≡◌, ℕ, Option, Some, None, option_map, refl, sym, ap, subst, ◌∙◌}
use Rattle.limbo_types.specs.Types.{Ty, Chars, ArrayOf, ChanOf, Module}
use Rattle.limbo_typed.specs.Typed.{Expr, Of, Node, Send, Receive, Load}
use Rattle.limbo_typed.specs.Sound.{IsSettled}
use Rattle.limbo_forms.specs.Forms.{choose, is_settled}
use Rattle.limbo_forms.proofs.Tests.{if_some, settled_is, settled_true}
use Rattle.limbo_channels.specs.Choosing.{carried, indexed, received_from_any, received}
use Rattle.limbo_channels.specs.Channels.{Sends, Receives}
use Rattle.limbo_channels.specs.Channels as rule
use Rattle.limbo_channels.specs.Loading.{Loads}
use Rattle.limbo_channels.specs.Loading as load_rule
use Rattle.limbo_standing.specs.Standing.{Settles}
use Rattle.limbo_standing.proofs.Settled.{settled_once}
use Rattle.limbo_refusals.specs.Refusals.{NoneIs}

mapped : {A B : Type 0} (o : Option A) (f : A → B) (y : B) → option_map f o ≡ Some y → (x : A) × (o ≡ Some x) × (f x ≡ y)
mapped (Some x) f y e = (x, refl, cc)
mapped None f y e = absurd cc

pub carried_is : (u t : Ty) → carried u ≡ Some t → (u ≡ ChanOf t) × IsSettled t
carried_is (ChanOf u) t e =
    let p = if_some (is_settled u) u t e in (ap ChanOf p.1, subst (λ (z : Ty). IsSettled z) p.1 (settled_is u p.0))
carried_is _ t e = absurd cc

carried_found : (t : Ty) → IsSettled t → carried (ChanOf t) ≡ Some t
carried_found t h = rw (settled_true t h) refl

-- ---- receives

at_chan : (u t : Ty) (n : Node) → carried u ≡ Some t → Receives (Of u n) (Of t (Receive (Of u n)))
at_chan u t n e =
    let p = carried_is u t e in
    subst (λ (z : Ty). Receives (Of z n) (Of t (Receive (Of z n)))) (sym p.0) (rule.from_one t n p.1)

at_array : (u t : Ty) (n : Node) → received_from_any u ≡ Some t → Receives (Of u n) (Of t (Receive (Of u n)))
at_array (ArrayOf u) t n e =
    let i = mapped (carried u) indexed t e in
    let p = carried_is u i.0 i.1 in
    let f : ArrayOf u ≡ ArrayOf (ChanOf i.0) = ap ArrayOf p.0 in
    subst (λ (z : Ty). Receives (Of z n) (Of t (Receive (Of z n)))) (sym f)
    (subst (λ (z : Ty). Receives (Of (ArrayOf (ChanOf i.0)) n) (Of z (Receive (Of (ArrayOf (ChanOf i.0)) n)))) i.2
    (rule.from_any i.0 n p.1))
at_array _ t n e = absurd cc

receives_given : (u t : Ty) (n : Node) → received u ≡ Some t → Receives (Of u n) (Of t (Receive (Of u n)))
receives_given u t n e = go (carried u) refl e
  where
    go : (o : Option Ty) → carried u ≡ o → choose o (received_from_any u) (λ v. Some v) ≡ Some t
        → Receives (Of u n) (Of t (Receive (Of u n)))
    go (Some v) h e = let f : v ≡ t = cc in at_chan u t n (h ∙ ap Some f)
    go None h e = at_array u t n e

-- the type of what is received, and what that is made of
receives_found : (u : Ty) (n : Node) (e : Expr) → Receives (Of u n) e
    → (t : Ty) × (received u ≡ Some t) × (e ≡ Of t (Receive (Of u n)))
receives_found _ _ _ (rule.from_one t n h) = (t, rw (carried_found t h) refl, refl)
receives_found _ _ _ (rule.from_any t n h) = (indexed t, rw (carried_found t h) refl, refl)

-- ---- what is answered

pub receive_given : (u t : Ty) (n : Node) (channel e : Expr) → channel ≡ Of u n → Some t ≡ received u
    → e ≡ Of t (Receive channel)
    → Receives channel e
receive_given u t n channel e c r h =
    subst (λ (z : Expr). Receives channel z) (sym h)
    (subst (λ (z : Expr). Receives z (Of t (Receive z))) (sym c) (receives_given u t n (sym r)))

pub none_received : (u : Ty) (n : Node) (channel : Expr) → channel ≡ Of u n → None ≡ received u → NoneIs (Receives channel)
none_received u n channel c r e h =
    let p = receives_found u n e (subst (λ (z : Expr). Receives z e) c h) in
    let f : None ≡ Some p.0 = r ∙ p.1 in
    absurd cc

pub receives_once : (channel e f : Expr) → Receives channel e → Receives channel f → e ≡ f
receives_once (Of u n) e f h k =
    let p = receives_found u n e h in
    let q = receives_found u n f k in
    let r : Some p.0 ≡ Some q.0 = sym p.1 ∙ q.1 in
    let s : p.0 ≡ q.0 = cc in
    p.2 ∙ ap (λ (z : Ty). Of z (Receive (Of u n))) s ∙ sym q.2

-- ---- sends

pub send_given : (u t : Ty) (n : Node) (channel value v e : Expr) → channel ≡ Of u n → Some t ≡ carried u → Settles t value v
    → e ≡ Of t (Send channel v) → Sends channel value e
send_given u t n channel value v e c r s h =
    let p = carried_is u t (sym r) in
    let q : channel ≡ Of (ChanOf t) n = c ∙ ap (λ (z : Ty). Of z n) p.0 in
    subst (λ (z : Expr). Sends channel value z) (sym h)
    (subst (λ (z : Expr). Sends z value (Of t (Send z v))) (sym q) (rule.sends t n value v p.1 s))

-- what is sent, given what the channel carries
sends_found : (u : Ty) (n : Node) (value e : Expr) → Sends (Of u n) value e
    → (t : Ty) × (v : Expr) × (carried u ≡ Some t) × Settles t value v × (e ≡ Of t (Send (Of u n) v))
sends_found _ _ _ _ (rule.sends t n value v h s) = (t, v, carried_found t h, s, refl)

pub none_sent : (u : Ty) (n : Node) (channel value : Expr) → channel ≡ Of u n → None ≡ carried u → NoneIs (Sends channel value)
none_sent u n channel value c r e h =
    let p = sends_found u n value e (subst (λ (z : Expr). Sends z value e) c h) in
    let f : None ≡ Some p.0 = r ∙ p.2 in
    absurd cc

pub none_settled : (u t : Ty) (n : Node) (channel value : Expr) → channel ≡ Of u n → Some t ≡ carried u → NoneIs (Settles t value)
    → NoneIs (Sends channel value)
none_settled u t n channel value c r none e h =
    let p = sends_found u n value e (subst (λ (z : Expr). Sends z value e) c h) in
    let f : Some t ≡ Some p.0 = r ∙ p.2 in
    let g : t ≡ p.0 = cc in
    none p.1 (subst (λ (z : Ty). Settles z value p.1) (sym g) p.3)

pub sends_once : (channel value e f : Expr) → Sends channel value e → Sends channel value f → e ≡ f
sends_once (Of u n) value e f h k =
    let p = sends_found u n value e h in
    let q = sends_found u n value f k in
    let r : Some p.0 ≡ Some q.0 = sym p.2 ∙ q.2 in
    let s : p.0 ≡ q.0 = cc in
    let t : p.1 ≡ q.1 = settled_once q.0 value p.1 q.1 (subst (λ (z : Ty). Settles z value p.1) s p.3) q.3 in
    p.4 ∙ ap (λ (z : Ty). Of z (Send (Of u n) p.1)) s ∙ ap (λ (z : Expr). Of q.0 (Send (Of u n) z)) t ∙ sym q.4

-- ---- loads

pub load_given : (i : ℕ) (path p e : Expr) → Settles Chars path p → e ≡ Of (Module i) (Load i p) → Loads i path e
load_given i path p e s h = subst (λ (z : Expr). Loads i path z) (sym h) (load_rule.loads path p s)

loads_found : (i : ℕ) (path e : Expr) → Loads i path e → (p : Expr) × Settles Chars path p × (e ≡ Of (Module i) (Load i p))
loads_found i _ _ (load_rule.loads path p s) = (p, s, refl)

pub loads_once : (i : ℕ) (path e f : Expr) → Loads i path e → Loads i path f → e ≡ f
loads_once i path e f h k =
    let p = loads_found i path e h in
    let q = loads_found i path f k in
    p.2 ∙ ap (λ (z : Expr). Of (Module i) (Load i z)) (settled_once Chars path p.0 q.0 p.1 q.1) ∙ sym q.2
