use Rattle.limbo_stated_sound.proofs.Members.{declared_leads}
use Rattle.limbo_stated_sound.proofs.Rows.{stated_leads, all_lead, block_leads, arms_lead}
use Rattle.limbo_stated_sound.proofs.laws.points_grow.Goals as goal

pub returns : goal.returns
returns c = record {
  declaration = declared_leads;
  statement = λ v s p q z h. stated_leads v p s z q h;
  row = λ v ss p q zs h. all_lead v p ss zs q h;
  block = λ v b p q z h. block_leads v p b z q h;
  arms = λ o v arms p q hs bs h. arms_lead o v p arms hs bs q h;
}
