use Rattle.std.proofs.Common.{◌≡◌, ◌∙◌, ℕ, List, [], ◌∷◌, ◌++◌, OnOk, inl, ap, subst}
use Rattle.lru.specs.LruCache.{LruCache, lru_cache, put_entries}
use Rattle.bridge_stats.specs.declared.taken.TakenIn.{TakenIn}
use Rattle.bridge_stats.specs.declared.sender.Sender.{Sender}
use Rattle.bridge_stats.specs.Senders.{same_sender}
use Rattle.bridge_stats.specs.Tables.{TableOf, most_sources, with_kept}
use Rattle.bridge_stats.proofs.source_table.SourceTable.begin.Goals as goal

pub returns-in-Ok : goal.returns-in-Ok
returns-in-Ok g c =
    let sender = c.args.sender in
    let cache = c.self.inside.cache in
    let left = c.self.inside.left_out in
    let v = c.note.new.self in
    let now = c.put.new.self in
    let kept : List (Sender × List TakenIn) → TableOf (List TakenIn) = λ es. record { entries = es; left_out = left } in
    let is : now ≡ lru_cache (put_entries same_sender cache sender v) cache.cap =
    subst (λ r. OnOk r (now ≡ lru_cache (put_entries same_sender cache sender v) cache.cap))
    c.in-Ok.is c.put.ensures.entries in
    let one : v ≡ c.args.taken.now ∷ [] =
    c.note.ensures ∙ ap (λ (l : List TakenIn). l ++ c.args.taken.now ∷ []) c.new-count.ensures in
    inl (ap (λ (x : LruCache Sender (List TakenIn)). kept x.entries) is
    ∙ (ap (λ (n : ℕ). kept (put_entries same_sender (lru_cache cache.entries n) sender v)) c.self.invariant
    ∙ (ap (with_kept most_sources sender v) c.self.view_is
    ∙ ap (λ (w : List TakenIn). with_kept most_sources sender w c.args.self.now) one)))
