-- Requests that the console served, one more after the others, and the replies of a journal.
use Rattle.std.proofs.Common.{◌≡◌, ℕ, List, [], ◌∷◌, ◌++◌, length, Bool, refl, sym, ap, ◌∙◌, subst, arith, append_assoc}
use Rattle.std.proofs.lemmas.List.{append-nil}
use Rattle.dis_machine.specs.declared.event.Event.{Event}
use Rattle.dis_machine.specs.declared.event.Event.TheVariants as event
use Rattle.console_server.specs.Console.{Exchange, Serves}
use Rattle.machine_host.specs.Talk.{reply_on, replies_of}

pub replies_append : (a b : List Event) → replies_of (a ++ b) ≡ replies_of a ++ replies_of b
replies_append [] b = refl
replies_append (event.Reply link frame ∷ a) b = ap (λ l. reply_on link frame ++ l) (replies_append a b) ∙ sym (append_assoc (reply_on link frame) (replies_of a) (replies_of b))
replies_append (event.Quantum pid count ∷ a) b = replies_append a b
replies_append (event.Down link why ∷ a) b = replies_append a b

pub serves_more : (before : Bool) (requests replies : List (List ℕ)) (bytes : List ℕ) (mid : Bool) (request reply first : List ℕ) (failed : Bool)
    → Serves before requests replies bytes mid → Exchange mid request reply first failed
    → Serves before (requests ++ request ∷ []) (replies ++ reply ∷ []) (bytes ++ first) failed
serves_more before [] [] bytes mid request reply first failed s x =
    (first, failed, [], subst (λ (b : Bool). Exchange b request reply first failed) s.1 x, (refl, refl), ap (λ (l : List ℕ). l ++ first) s.0 ∙ sym (append-nil first))
serves_more before (q ∷ requests) (a ∷ replies) bytes mid request reply first failed s x = (
  s.0,
  s.1,
  s.2 ++ first,
  s.3,
  serves_more s.1 requests replies s.2 mid request reply first failed s.4 x,
  ap (λ (l : List ℕ). l ++ first) s.5 ∙ append_assoc s.0 s.2 first,
)
serves_more before [] (a ∷ replies) bytes mid request reply first failed s x = absurd s
serves_more before (q ∷ requests) [] bytes mid request reply first failed s x = absurd s

-- a reply for each request
pub serves_each : (before : Bool) (requests replies : List (List ℕ)) (bytes : List ℕ) (failed : Bool) → Serves before requests replies bytes failed → length requests ≡ length replies
serves_each before [] [] bytes failed s = refl
serves_each before (q ∷ requests) (a ∷ replies) bytes failed s = omega (arith, serves_each s.1 requests replies s.2 failed s.4)
serves_each before [] (a ∷ replies) bytes failed s = absurd s
serves_each before (q ∷ requests) [] bytes failed s = absurd s
