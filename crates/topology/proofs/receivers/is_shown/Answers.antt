use Rattle.std.proofs.Common.{◌&&◌, sym, ap, ◌∙◌}
use Rattle.std.specs.Option.{option_or, option_and_then}
use Rattle.topology.specs.Looking.{is_this, holder}
use Rattle.topology.specs.Choice.{first_video}
use Rattle.topology.proofs.Holders.{floor_shows}
use Rattle.topology.proofs.receivers.is_shown.Goals as goal

pub returns-else-is_this : goal.returns-else-is_this
returns-else-is_this g c =
    let d = c.args.rows.now in
    let source = c.args.source in
    let sender = c.args.sender.now in
    c.if-is_this.false
    ∙ ap (λ b. b && is_this source (first_video d sender.member))
    (sym c.if-is_this.false ∙ c.is_this.ensures ∙ ap (is_this sender.member) c.holder.ensures)
    ∙ floor_shows d source sender.member (holder d sender.room) c.pinned.ensures.good c.requires
    ∙ ap (λ o. is_this source (option_or o (option_and_then (first_video d) (holder d sender.room))))
    (sym c.in-None.is ∙ c.pinned.ensures.pin)
