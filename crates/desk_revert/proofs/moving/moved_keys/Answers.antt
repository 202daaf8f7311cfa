use Rattle.std.specs.Prelude.{◌++◌, map, filter}
use Rattle.std.proofs.Common.{ap, ◌∙◌}
use Rattle.desk_rows.specs.Row.{key_of}
use Rattle.desk_revert.proofs.Telling.{key_at, told, all_told}
use Rattle.desk_revert.proofs.moving.moved_keys.Goals as goal

pub returns : goal.returns
returns g c =
    let d = c.args.before.now in
    let e = c.args.behind.now in
    let edit = c.args.edit.now in
    c.in_ok-extend_from_slice-3.ensures.items
    ∙ ap (λ ks. ks ++ c.deref-3.result.now)
    (c.in_ok-extend_from_slice-2.ensures.items
    ∙ ap (λ ks. ks ++ c.deref-2.result.now) c.in_ok-extend_from_slice.ensures.items)
    ∙ all_told d e edit.taken.members edit.put.members edit.taken.others edit.put.others c.in_ok-keys.keys.items
    c.deref.result.now c.deref-2.result.now c.deref-3.result.now c.requires.members c.requires.gone
    c.requires.come
    (c.in_ok-keys.ensures ∙ ap (λ ps. filter (told d e) (map key_at ps)) c.taken_members.ensures)
    (c.deref.ensures.value ∙ c.in_ok-gone.ensures
    ∙ ap (λ rs. filter (told d e) (map key_of rs)) c.taken_others.ensures)
    (c.deref-2.ensures.value ∙ c.in_ok-come.ensures
    ∙ ap (λ ps. filter (told d e) (map key_at ps)) c.put_members.ensures)
    (c.deref-3.ensures.value ∙ c.in_ok-new.ensures
    ∙ ap (λ rs. filter (told d e) (map key_of rs)) c.put_others.ensures)
