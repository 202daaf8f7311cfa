use Rattle.mixer.proofs.EachMember.{goes_to_one}
use Rattle.mixer.proofs.laws.mixes_go_to_their_members.Goals as goal

pub returns : goal.returns
returns c ssrc before d moment h =
    goes_to_one ssrc before d moment (λ front m back e. c.mixes_have_one_member.ensures d front m back h e)
