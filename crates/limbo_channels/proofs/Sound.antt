-- What is sent, received and loaded is sound where its parts are.
use Rattle.std.proofs.Common.{◌≡◌, inl, inr, refl}
use Rattle.limbo_types.specs.Types.{Ty, Chars, RefPick}
use Rattle.limbo_typed.specs.Fitting.{Stands}
use Rattle.limbo_typed.specs.Sound.{type_of}
use Rattle.limbo_standing.proofs.Settled.{settled_stands}
use Rattle.limbo_channels.specs.Channels as rule
use Rattle.limbo_channels.specs.Loading as load_rule
use Rattle.limbo_channels.specs.Laws.{ReceivesAreSound, SendsAreSound, LoadsAreSound}

pub receives_sound : ReceivesAreSound
receives_sound m vs _ _ (rule.from_one t n h) s k = (k, (s, refl))
receives_sound m vs _ _ (rule.from_any t n h) s k = (k, (s, refl))

pub sends_sound : SendsAreSound
sends_sound m vs _ _ _ (rule.sends t n value v h s) c as_t k = (k, (c, as_t v s, refl, settled_stands t value v s))

stands_chars : (t : Ty) → Stands t Chars → t ≡ Chars
stands_chars t (inl e) = e
stands_chars (RefPick n v) (inr e) = absurd cc
stands_chars _ (inr e) = absurd e

pub loads_sound : LoadsAreSound
loads_sound m vs i _ _ (load_rule.loads path p s) as_chars k =
    (k, (as_chars p s, stands_chars (type_of p) (settled_stands Chars path p s), refl))
