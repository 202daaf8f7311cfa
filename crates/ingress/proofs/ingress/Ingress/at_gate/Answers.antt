use Rattle.std.proofs.Common.{◌≡◌, ◌∙◌, ap, subst, map, ◌||◌, ◌++◌, ◌+◌, if◌then◌else◌}
use Rattle.std.specs.List.{list_all, AllByRecursion}
use Rattle.frame_gate.specs.Answer.{Answer}
use Rattle.media_items.specs.Inputs.{input_of, is_sized}
use Rattle.source_valid.specs.Histories.{restarts}
use Rattle.ingress.specs.Ingested.{datagram_of}
use Rattle.ingress.specs.Media.{MediaPacket, origin_of, frames_from}
use Rattle.ingress.specs.Sources.{Origin}
use Rattle.ingress.specs.Taking.{asked_of}
use Rattle.ingress.specs.inner.MediaPackets.{incoming_of, origin_in}
use Rattle.ingress.specs.inner.SourceEntries.{ValidatedOf}
use Rattle.ingress.specs.inner.Moves.{outcome_at}
use Rattle.ingress.proofs.Answered.{given_is}
use Rattle.ingress.proofs.Sized.{sized_frames}
use Rattle.ingress.proofs.AboutLemmas.{about_frames}
use Rattle.ingress.proofs.ReceivedLemmas.{of_taken}
use Rattle.ingress.proofs.ingress.Ingress.at_gate.Goals as goal

pub invariant_of-result : goal.invariant_of-result
invariant_of-result g c =
    let origin : Origin = origin_in c.origin_of-origin.result in
    let frames = frames_from origin c.args.incoming.moment c.epoch_for-epoch.result c.in_ok-frames.frames.items in
    record {
      sized =
          ap (list_all is_sized)
          (c.put_frames.ensures.items ∙ ap (λ xs. map input_of xs ++ frames) c.in_ok-items.ensures.items)
          ∙ sized_frames origin c.args.incoming.moment c.epoch_for-epoch.result c.in_ok-frames.frames.items;
    }

pub returns-clause-gates : goal.returns-clause-gates
returns-clause-gates g c = λ p admits.
    let answer : Answer = c.args.admission.prepared.prepared.answer in
    let j : ValidatedOf = c.args.validated.now in
    let at = c.answer.view_is ∙ c.answer-answer.ensures in
    let incoming : MediaPacket = incoming_of c.args.incoming in
    let origin : Origin = origin_of incoming in
    let parts : Origin = origin_in c.origin_of-origin.result in
    let same : parts ≡ origin = c.origin_of-origin.ensures in
    record {
      admission = c.args.admission;
      admits = admits;
      advances = c.in_ok-frames.ensures.advances;
      answers = λ voice is asker. given_is voice incoming _ j.verdict answer _ _ _
          (c.outcome_at-outcome.ensures
          ∙ ap (λ (x : ValidatedOf). outcome_at x.verdict c.answer.inside.place) c.validated.view_is
          ∙ ap (λ (a : Answer). outcome_at j.verdict a.place) at)
          (c.in_ok-up.ensures.asked voice is asker
          ∙ ap (λ n. asked_of voice parts n c.loses-pli.result)
          (c.deref.ensures.value ∙ ap (λ (a : Answer). a.nacks) at)
          ∙ ap (λ (x : Origin). asked_of voice x answer.nacks c.loses-pli.result) same
          ∙ ap (λ b. asked_of voice origin answer.nacks b) (c.loses-pli.ensures
          ∙ ap (λ (x : ValidatedOf). restarts x.verdict || c.answer.inside.pli) c.validated.view_is
          ∙ ap (λ (a : Answer). restarts j.verdict || a.pli) at))
          (c.put_frames.ensures.items
          ∙ ap
          (λ xs.
          map input_of xs ++ frames_from parts incoming.moment c.epoch_for-epoch.result c.in_ok-frames.frames.items)
          c.in_ok-items.ensures.items
          ∙ ap (λ (x : Origin). frames_from x incoming.moment c.epoch_for-epoch.result c.in_ok-frames.frames.items)
          same
          ∙ ap (λ fs. frames_from origin incoming.moment c.epoch_for-epoch.result fs) c.in_ok-frames.ensures.frames
          ∙ ap (λ e. frames_from origin incoming.moment e answer.frames)
          (c.epoch_for-epoch.ensures ∙ ap (λ e. if j.begins then c.args.self.now.epochs + 1 else e) c.requires.epoch));
    }

pub returns-clause-about : goal.returns-clause-about
returns-clause-about g c =
    let incoming : MediaPacket = incoming_of c.args.incoming in
    let origin : Origin = origin_in c.origin_of-origin.result in
    let frames = c.in_ok-frames.frames.items in
    let to = ap (λ (o : Origin). o.address) c.origin_of-origin.ensures in
    about_frames incoming.from origin incoming.moment c.epoch_for-epoch.result frames _ _ _
    (c.put_frames.ensures.items
    ∙ ap (λ xs. map input_of xs ++ frames_from origin incoming.moment c.epoch_for-epoch.result frames)
    c.in_ok-items.ensures.items)
    (subst (λ a. AllByRecursion (λ d. d.0 ≡ a) (map datagram_of c.in_ok-up.up.items)) to c.in_ok-up.ensures.about)

pub returns-clause-packet : goal.returns-clause-packet
returns-clause-packet g c =
    let j : ValidatedOf = c.args.validated.now in
    of_taken c.args.self.now c.advance.new.self c.args.key j _ c.answer.inside.place _
    (c.outcome_at-outcome.ensures
    ∙ ap (λ (x : ValidatedOf). outcome_at x.verdict c.answer.inside.place) c.validated.view_is)
    (ap (λ (x : ValidatedOf). x.begins) c.validated.view_is)
    c.in_ok-frames.ensures.advances
