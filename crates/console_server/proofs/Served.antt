-- What one exchange leaves.
use Rattle.std.proofs.Common.{◌≡◌, ◌⊎◌, ℕ, List, Bool, Option, Result, Ok, Err, IfOk, refl, sym, ap, ◌∙◌, subst, inr}
use Rattle.std.specs.Prelude.{OnOk, OnErr}
use Rattle.std.specs.Global.{Vec}
use Rattle.std.specs.declared.alloc.AllocError.{AllocError}
use Rattle.std.specs.Io.KnownBytes.{Appends}
use Rattle.styx_msg.specs.declared.message.Tmsg.{Tmsg}
use Rattle.styx_msg.specs.declared.message.Rmsg.{Rmsg}
use Rattle.styx_msg.specs.Styx.{r_row, spelling, Fits}
use Rattle.console_server.specs.Console.{Answers}
use Rattle.console_server.specs.Exchange.{IsRequest, IsServed}

-- the console answered the request that was read
abbrev pub Read : Bool → Tmsg → Rmsg → Bool → Option (List ℕ) → Option (List ℕ) → Type 0
Read before m reply failed old new = (bytes : List ℕ) × Answers before m reply bytes failed × Appends old new bytes

pub served : (before failed : Bool) (old new : Option (List ℕ)) (tag tag' : ℕ) (m m' : Tmsg) (reply : Rmsg) → tag' ≡ tag → m' ≡ m → Read before m' reply failed old new → IsServed before tag m (spelling tag (r_row reply)) failed old new
served before failed old new tag tag' m m' reply t e r =
    let P : Tmsg → Type 0 = λ x. Answers before x reply r.0 failed in
    record { reply = reply; bytes = r.0; frame_is = refl; answers = subst P e r.1; grown = r.2 }

pub answered : (frame : List ℕ) (before failed : Bool) (old new : Option (List ℕ)) (tag' : ℕ) (m' : Tmsg) (reply : Rmsg) (r : Result (Vec ℕ) AllocError)
    → ((tag : ℕ) (m : Tmsg) → IsRequest frame tag m → (tag' ≡ tag) × (m' ≡ m)) → Read before m' reply failed old new
    → IfOk r (λ f. f.items ≡ spelling tag' (r_row reply)) → OnOk r (Fits tag' (r_row reply))
    → IfOk r (λ f. (tag : ℕ) (m : Tmsg) → IsRequest frame tag m → (s : IsServed before tag m f.items failed old new) × Fits tag (r_row s.reply))
unfolding served
answered frame before failed old new tag' m' reply (Ok f) same r spelled fits = λ tag m is.
    let e = same tag m is in
    let P : List ℕ → Type 0 = λ x. (s : IsServed before tag m x failed old new) × Fits tag (r_row s.reply) in
    let Q : ℕ → Type 0 = λ n. Fits n (r_row reply) in
    subst P (sym (spelled ∙ ap (λ (n : ℕ). spelling n (r_row reply)) e.0)) (served before failed old new tag tag' m m' reply e.0 e.1 r, subst Q e.0 fits)
answered frame before failed old new tag' m' reply (Err x) same r spelled fits = tt

pub stopped : (frame : List ℕ) (before failed : Bool) (old new : Option (List ℕ)) (tag' : ℕ) (m' : Tmsg) (reply : Rmsg) (r : Result (Vec ℕ) AllocError) (P : Type 0)
    → ((tag : ℕ) (m : Tmsg) → IsRequest frame tag m → (tag' ≡ tag) × (m' ≡ m)) → Read before m' reply failed old new
    → OnErr r ((tag : ℕ) (m : Tmsg) → IsRequest frame tag m → P ⊎ ((f : List ℕ) × IsServed before tag m f failed old new))
stopped frame before failed old new tag' m' reply (Ok f) P same r = tt
stopped frame before failed old new tag' m' reply (Err x) P same r = λ tag m is.
    let e = same tag m is in
    inr (spelling tag (r_row reply), served before failed old new tag tag' m m' reply e.0 e.1 r)
