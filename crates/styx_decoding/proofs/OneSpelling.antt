-- One message, one spelling.
use Rattle.std.proofs.Common.{◌≡◌, ℕ, ◌%◌, List, [], ◌++◌, length, Option, Result, Ok, refl, sym, ap}
use Rattle.std.proofs.Common.{◌∙◌, arith, length-append}
use Rattle.std.proofs.lemmas.List.{append-nil, nil_from_length}
use Rattle.styx_msg.specs.declared.fault.StyxFault.{StyxFault}
use Rattle.styx_msg.specs.declared.message.Decoded.{Decoded}
use Rattle.styx_msg.specs.declared.message.Decoded.TheVariants.{Whole}
use Rattle.styx_msg.specs.declared.message.Tmsg.{Tmsg}
use Rattle.styx_msg.specs.declared.message.Rmsg.{Rmsg}
use Rattle.styx_decoding.specs.declared.kind.TKind.{TKind}
use Rattle.styx_decoding.specs.declared.kind.TKind.TheVariants as tk
use Rattle.styx_decoding.specs.declared.kind.RKind.{RKind}
use Rattle.styx_decoding.specs.declared.kind.RKind.TheVariants as rk
use Rattle.styx_msg.specs.Styx.{Row, t_row, r_row, spelling, Fits}
use Rattle.styx_decoding.specs.Reading.{Read, t_number, t_kind_of, t_body_at, r_number, r_kind_of, r_body_at}
use Rattle.styx_msg.specs.Answers.{OrNoMemory}
use Rattle.styx_decoding.specs.Decoding.{IsAnswer}
use Rattle.styx_decoding.proofs.Rows.{Direction, t_kind_is, t_direction, r_kind_is, r_direction}
use Rattle.styx_decoding.proofs.Frames.{begins, one_message, whole_answer, type_of}

one : {M K : Type 0} (table : M → Row) (number_of : K → ℕ) (kind_of : ℕ → Option K) (body_at : K → List ℕ
    → Read M) (kind_is : M → K) → Direction table number_of kind_of body_at kind_is
    → (tag tag' : ℕ) (m m' : M) (rest : List ℕ) → Fits tag (table m) → Fits tag' (table m')
    → spelling tag (table m) ++ rest ≡ spelling tag' (table m') → (tag ≡ tag') × (m ≡ m') × (rest ≡ [])
one table number_of kind_of body_at kind_is d tag tag' m m' rest fits fits' e =
    let whole = spelling tag' (table m') in
    let a = begins table whole rest tag m fits (sym e) in
    let b = begins table whole [] tag' m' fits' (sym (append-nil whole)) in
    let same = one_message table number_of kind_of body_at kind_is d whole tag (length (spelling tag
    (table m))) tag' (length whole) m m' a b in (
      same.0,
      same.1,
      nil_from_length rest (omega (
        arith,
        same.2,
        ap length e,
        length-append (spelling tag
            (table m)) rest,
      )),
    )

pub one_t : (tag tag' : ℕ) (m m' : Tmsg) (rest : List ℕ) → Fits tag (t_row m) → Fits tag' (t_row m')
    → spelling tag (t_row m) ++ rest ≡ spelling tag' (t_row m') → (tag ≡ tag') × (m ≡ m') × (rest ≡ [])
one_t = one t_row t_number t_kind_of t_body_at t_kind_is t_direction

pub one_r : (tag tag' : ℕ) (m m' : Rmsg) (rest : List ℕ) → Fits tag (r_row m) → Fits tag' (r_row m')
    → spelling tag (r_row m) ++ rest ≡ spelling tag' (r_row m') → (tag ≡ tag') × (m ≡ m') × (rest ≡ [])
one_r = one r_row r_number r_kind_of r_body_at r_kind_is r_direction

back : {M K : Type 0} (table : M → Row) (number_of : K → ℕ) (kind_of : ℕ → Option K) (body_at : K → List ℕ
    → Read M) (kind_is : M → K) → Direction table number_of kind_of body_at kind_is
    → (tag : ℕ) (m : M) (rest : List ℕ) (answer : Result (Decoded M) StyxFault) → Fits tag (table m)
    → IsAnswer table (spelling tag (table m) ++ rest) answer
    → OrNoMemory answer (Ok (Whole tag m (length (spelling tag (table m)))))
back table number_of kind_of body_at kind_is d tag m rest answer fits a =
    whole_answer table number_of kind_of body_at kind_is d (spelling tag (table m) ++ rest) answer a tag m
    (length (spelling tag (table m))) (begins table (spelling tag (table m) ++ rest) rest tag m fits refl)

pub back_t : (tag : ℕ) (m : Tmsg) (rest : List ℕ) (answer : Result (Decoded Tmsg) StyxFault)
    → Fits tag (t_row m) → IsAnswer t_row (spelling tag (t_row m) ++ rest) answer
    → OrNoMemory answer (Ok (Whole tag m (length (spelling tag (t_row m)))))
back_t = back t_row t_number t_kind_of t_body_at t_kind_is t_direction

pub back_r : (tag : ℕ) (m : Rmsg) (rest : List ℕ) (answer : Result (Decoded Rmsg) StyxFault)
    → Fits tag (r_row m) → IsAnswer r_row (spelling tag (r_row m) ++ rest) answer
    → OrNoMemory answer (Ok (Whole tag m (length (spelling tag (r_row m)))))
back_r = back r_row r_number r_kind_of r_body_at r_kind_is r_direction

-- the types of requests are even, and those of replies odd
even : (k : TKind) → t_number k % 2 ≡ 0
even tk.Version = refl
even tk.Auth = refl
even tk.Attach = refl
even tk.Flush = refl
even tk.Walk = refl
even tk.Open = refl
even tk.Create = refl
even tk.Read = refl
even tk.Write = refl
even tk.Clunk = refl
even tk.Remove = refl
even tk.Stat = refl
even tk.Wstat = refl

odd : (k : RKind) → r_number k % 2 ≡ 1
odd rk.Version = refl
odd rk.Auth = refl
odd rk.Attach = refl
odd rk.Error = refl
odd rk.Flush = refl
odd rk.Walk = refl
odd rk.Open = refl
odd rk.Create = refl
odd rk.Read = refl
odd rk.Write = refl
odd rk.Clunk = refl
odd rk.Remove = refl
odd rk.Stat = refl
odd rk.Wstat = refl

pub apart : (tag tag' : ℕ) (m : Tmsg) (m' : Rmsg) (rest more : List ℕ) → Fits tag (t_row m)
    → Fits tag' (r_row m') → spelling tag (t_row m) ++ rest ≡ spelling tag' (r_row m') ++ more → ⊥
apart tag tag' m m' rest more fits fits' e =
    let bytes = spelling tag (t_row m) ++ rest in
    let t = type_of t_row bytes tag (length (spelling tag (t_row m))) m (begins t_row bytes rest tag m fits refl) in
    let r = type_of r_row bytes tag' (length (spelling tag' (r_row m'))) m'
    (begins r_row bytes more tag' m' fits' e) in
    let t-is : t_number (t_kind_is m) ≡ (t_row m).type =
    t_direction.sound (t_row m).type (t_kind_is m) (t_direction.known m) in
    let r-is : r_number (r_kind_is m') ≡ (r_row m').type =
    r_direction.sound (r_row m').type (r_kind_is m') (r_direction.known m') in
    let same : t_number (t_kind_is m) ≡ r_number (r_kind_is m') = t-is ∙ t ∙ sym r ∙ sym r-is in
    omega (arith, even (t_kind_is m), odd (r_kind_is m'), ap (λ (n : ℕ). n % 2) same)
