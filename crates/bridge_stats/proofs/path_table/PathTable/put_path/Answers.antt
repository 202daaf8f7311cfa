use Rattle.std.proofs.Common.{◌≡◌, ◌∙◌, ℕ, List, OnOk, inl, ap, subst}
use Rattle.lru.specs.LruCache.{LruCache, lru_cache, put_entries}
use Rattle.bridge_stats.specs.declared.path.PathReport.{PathReport}
use Rattle.bridge_stats.specs.declared.sender.Sender.{Sender}
use Rattle.bridge_stats.specs.Senders.{same_sender}
use Rattle.bridge_stats.specs.Tables.{TableOf, with_kept}
use Rattle.bridge_stats.specs.Paths.{most_paths}
use Rattle.bridge_stats.proofs.path_table.PathTable.put_path.Goals as goal

pub returns-in-Ok : goal.returns-in-Ok
returns-in-Ok g c =
    let stream = c.args.stream in
    let path = c.args.path in
    let cache = c.self.inside.cache in
    let left = c.self.inside.left_out in
    let now = c.put.new.self in
    let kept : List (Sender × PathReport) → TableOf PathReport = λ es. record { entries = es; left_out = left } in
    let is : now ≡ lru_cache (put_entries same_sender cache stream path) cache.cap =
    subst (λ r. OnOk r (now ≡ lru_cache (put_entries same_sender cache stream path) cache.cap))
    c.in-Ok.is c.put.ensures.entries in
    inl (ap (λ (x : LruCache Sender PathReport). kept x.entries) is
    ∙ (ap (λ (n : ℕ). kept (put_entries same_sender (lru_cache cache.entries n) stream path)) c.self.invariant
    ∙ ap (with_kept most_paths stream path) c.self.view_is))
