use Rattle.std.proofs.Common.{◌≡◌, ◌∙◌, ◌-◌, List, [], ◌∷◌, ◌++◌, take, Option, Some, inl, ap, sym}
use Rattle.std.specs.Option.{option_copied_mut}
use Rattle.std.specs.Map.{lookup}
use Rattle.bridge_stats.specs.declared.taken.TakenIn.{TakenIn}
use Rattle.bridge_stats.specs.declared.sender.Sender.{Sender}
use Rattle.bridge_stats.specs.Senders.{same_sender}
use Rattle.bridge_stats.specs.Tables.{TableOf, most_sources, or_none, with_kept}
use Rattle.bridge_stats.proofs.Entries.{set_promoted}
use Rattle.bridge_stats.proofs.source_table.SourceTable.note.Goals as goal

pub returns-in-Some : goal.returns-in-Some
returns-in-Some g c =
    let sender = c.args.sender in
    let t = c.args.taken.now in
    let es = c.self.inside.cache.entries in
    let left = c.self.inside.left_out in
    let v = c.note.new.self in
    let kept : List (Sender × List TakenIn) → TableOf (List TakenIn) = λ l. record { entries = l; left_out = left } in
    let at : lookup (same_sender sender) es ≡ Some c.in-Some.count.now =
    sym c.get_mut.ensures.value ∙ ap option_copied_mut c.in-Some.is in
    let whole : v ≡ or_none (lookup (same_sender sender) c.args.self.now.entries) ++ t ∷ [] =
    c.note.ensures
    ∙ (ap (λ (o : Option (List TakenIn)). or_none o ++ t ∷ []) (sym at)
    ∙ ap (λ (x : TableOf (List TakenIn)). or_none (lookup (same_sender sender) x.entries) ++ t ∷ []) c.self.view_is) in
    inl (ap kept
    (set_promoted (same_sender sender) es c.in-Some.count.now v ((sender, v) ∷ take (most_sources - 1) es) at)
    ∙ (ap (with_kept most_sources sender v) c.self.view_is
    ∙ ap (λ (w : List TakenIn). with_kept most_sources sender w c.args.self.now) whole))
