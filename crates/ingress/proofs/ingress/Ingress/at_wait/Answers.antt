use Rattle.std.proofs.Common.{◌≡◌, ◌∙◌, ap, subst, map, List, ◌++◌}
use Rattle.std.specs.List.{list_all}
use Rattle.frame_gate.specs.Watched.{Waited}
use Rattle.media_items.specs.Inputs.{input_of, is_sized}
use Rattle.ingress.specs.declared.outcome.Outcome.TheVariants.{Unknown}
use Rattle.ingress.specs.declared.known.OriginKey.{OriginKey}
use Rattle.ingress.specs.Media.{frames_from}
use Rattle.ingress.specs.Sources.{Origin}
use Rattle.ingress.specs.Taking.{asked_of}
use Rattle.ingress.specs.inner.MediaPackets.{origin_in}
use Rattle.ingress.specs.inner.SourceEntries.{EntryOf}
use Rattle.ingress.specs.inner.Holding.{IngressOf, WaitedAt}
use Rattle.ingress.proofs.Answered.{ingested}
use Rattle.ingress.proofs.Sized.{sized_frames}
use Rattle.ingress.proofs.AboutLemmas.{about_frames}
use Rattle.ingress.proofs.ingress.Ingress.at_wait.Goals as goal

pub invariant_of-result : goal.invariant_of-result
invariant_of-result g c =
    let origin : Origin = origin_in c.args.origin in
    let frames = frames_from origin c.args.moment c.wait-epoch.result.0 c.waited.inside.frames.items in
    record {
      sized =
          ap (list_all is_sized)
          (c.put_frames.ensures.items ∙ ap (λ xs. map input_of xs ++ frames) c.in_ok-items.ensures.items)
          ∙ sized_frames origin c.args.moment c.wait-epoch.result.0 c.waited.inside.frames.items;
    }

pub returns-clause-waits : goal.returns-clause-waits
returns-clause-waits g c =
    let origin : Origin = origin_in c.args.origin in
    let epoch = c.wait-epoch.result.0 in
    let new = c.wait-epoch.new.self in
    record {
      epoch = epoch;
      waited =
          subst (λ (key : OriginKey). WaitedAt c.args.self.now.entries new key c.args.prepared epoch)
          c.origin_key.ensures
          (subst (λ (i : IngressOf). WaitedAt i.entries new c.origin_key.result c.args.prepared epoch) c.self.view_is
          c.wait-epoch.ensures.waited);
      others = ap (λ (i : IngressOf). record i { entries = new }) c.self.view_is;
      answers = λ voice is asker.
          ap (λ x. ingested Unknown x (map input_of c.put_frames.new.items.items))
          (c.in_ok-up.ensures.asked voice is asker
          ∙ ap (λ n. asked_of voice origin n c.gives_up.result) c.nacks.ensures
          ∙ ap (λ b. asked_of voice origin c.args.prepared.nacks b) c.gives_up.ensures)
          ∙ ap (λ x. ingested Unknown (asked_of voice origin c.args.prepared.nacks c.args.prepared.cuts.answer.pli) x)
          (c.put_frames.ensures.items
          ∙ ap (λ xs. map input_of xs ++ frames_from origin c.args.moment epoch c.waited.inside.frames.items)
          c.in_ok-items.ensures.items
          ∙ ap (λ fs. frames_from origin c.args.moment epoch fs)
          (ap (λ (a : Waited). a.frames) (c.waited.view_is ∙ c.wait-epoch.ensures.answer)));
    }

pub returns-clause-about : goal.returns-clause-about
returns-clause-about g c =
    let origin : Origin = origin_in c.args.origin in
    let frames = c.waited.inside.frames.items in
    let epoch = c.wait-epoch.result.0 in
    about_frames origin.address origin c.args.moment epoch frames _ _ _
    (c.put_frames.ensures.items
    ∙ ap (λ xs. map input_of xs ++ frames_from origin c.args.moment epoch frames) c.in_ok-items.ensures.items)
    c.in_ok-up.ensures.about
