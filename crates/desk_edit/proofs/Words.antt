-- The words that proofs of this crate cite, passed on from one place. Declares nothing.
pub use Rattle.std.proofs.Common.{◌≡◌, ℕ, zero, suc, ◌+◌, ◌-◌, ◌<◌, ◌≤◌, nat_le, nat_lt, nat_eq, Bool, true, false, not}
pub use Rattle.std.proofs.Common.{cond, ◌&&◌, ◌||◌, List, [], ◌∷◌, ◌++◌, map, filter, length, insert, remove, count_by}
pub use Rattle.std.proofs.Common.{find, IfOk, Option, Some, None, ◌⊎◌, inl, inr, refl, sym, ap, ◌∙◌, subst, arith}
pub use Rattle.std.proofs.Common.{append_assoc, append-nil, eqb-true, eq-eqb, ne_eqb, ltb-false, leb-false, lt-ltb}
pub use Rattle.std.specs.Option.{is_some}
pub use Rattle.std.specs.List.{list_any, list_all}
pub use Rattle.std.proofs.Math.Bool.{and-true, and-false, or-false, or_comm, or_assoc, not-not}
pub use Rattle.std.proofs.lemmas.Bool.{and_parts, and_from, and_right, or_parts, or_left, or_right, or_cases}
pub use Rattle.std.proofs.lemmas.Bool.{cases_Bool, not-true, not-false, false_from_ne_true}
pub use Rattle.std.proofs.lemmas.List.{nil_from_length}
pub use Rattle.std.proofs.lemmas.List.Edits.{insert_end}
pub use Rattle.std.proofs.lemmas.List.Elements.{filter-append}
pub use Rattle.std.proofs.lemmas.List.Filters.{length-filter_both}
pub use Rattle.std.proofs.lemmas.List.Folds.{find-append, fold-map, list_all-append, list_any-append}
pub use Rattle.std.proofs.lemmas.List.Sums.{count_by-le-length, length-filter}
pub use Rattle.rtp_codec.specs.declared.address.Address.{Address}
pub use Rattle.desk_rows.specs.declared.row.Row.{Row}
pub use Rattle.desk_rows.specs.declared.row.Room.{Room as RoomRow}
pub use Rattle.desk_rows.specs.declared.row.Member.{Member as MemberRow}
pub use Rattle.desk_rows.specs.declared.row.Gain.{Gain as GainRow}
pub use Rattle.desk_rows.specs.declared.row.Media.{Media}
pub use Rattle.desk_rows.specs.declared.row.Media.TheVariants.{Audio}
pub use Rattle.desk_rows.specs.declared.key.Key.{Key}
pub use Rattle.desk_rows.specs.declared.key.Kind.{Kind}
pub use Rattle.desk_rows.specs.declared.claim.Claim.{Claim}
pub use Rattle.desk_rows.specs.declared.edit.Placed.{Placed}
pub use Rattle.desk_rows.specs.Limits.{room_audio_limit}
pub use Rattle.desk_rows.specs.Few.{listed}
pub use Rattle.desk_rows.specs.Row.{rank, kind_of, key_of, has_key, same_key, same_row, same_media, names, Want, wants}
pub use Rattle.desk_rows.specs.Row.{suits, is_in_range, makes, other_claims, claims_of}
pub use Rattle.desk_rows.specs.Kinds.{is_of, limits}
pub use Rattle.desk_rows.specs.Order.{precedes, in_order, is_in, with_row, without_rows}
pub use Rattle.desk_rows.specs.Places.{is_at, places_rise, take_at, put_at, can_take, can_put}
pub use Rattle.desk_rows.specs.Naming.{is_gain_of, gains_naming}
pub use Rattle.desk_rows.specs.Edit.{EditOf, outs, ins}
pub use Rattle.desk_rows.specs.Desk.{Desk, good, rows_of, row_at, holds, count_of, room_of_member, room_of}
pub use Rattle.desk_rows.specs.Desk.{room_of_found, room_at, same_room, are_together, all_suit, is_audio_in}
pub use Rattle.desk_rows.specs.Desk.{has_few_audio, is_named_there, is_bridges, is_made_once, is_alone}
pub use Rattle.desk_rows.specs.Desk.{is_within_limits, obeys}
pub use Rattle.desk_rows.specs.Keyed.{IsKeyed}
pub use Rattle.desk_rows.specs.inner.judging.Found.{finds, is_elsewhere}
pub use Rattle.desk_rows.specs.inner.judging.Judged.{stay_rows, go_rows, come_rows, go_count, come_count, takes, puts}
pub use Rattle.desk_rows.specs.inner.judging.Judged.{keeps_names, moves, gains_audio, takes_any, is_shaken, all_come}
pub use Rattle.desk_rows.specs.inner.judging.Judged.{all_stay}
pub use Rattle.desk_rows.specs.laws.Equal.{number_itself, same_key_is, key_itself, its_key, same_row_is, row_itself}
pub use Rattle.desk_rows.specs.laws.OrderLaws.{both_ways, at_each, from_each, in_order-filter, filter_all, is_in-filter}
pub use Rattle.desk_rows.specs.laws.PlaceLaws.{count_next}
pub use Rattle.desk_rows.specs.laws.Laws.{Apt, good_parts, good_order, fits_parts, fits_from, after_fits, any_counts}
pub use Rattle.desk_rows.specs.laws.Laws.{is_in-append, one_key}
pub use Rattle.desk_rows.proofs.Counts.{true_false, witness, any_count, no_count, some_count, count_some, list_any-map}
pub use Rattle.desk_rows.proofs.Counts.{two_alls, two_counts, rows_count, before_count, after_count}
pub use Rattle.desk_rows.proofs.Halving.{below_falls}
pub use Rattle.desk_rows.proofs.Finding.{is_found, found_nothing, found_one, found_there, order_once, keyed_good}
pub use Rattle.desk_rows.proofs.Finding.{was_there, found_still}
pub use Rattle.desk_rows.proofs.KeyedLemmas.{found_passes}
pub use Rattle.desk_rows.proofs.KindLemmas.{plain_others, not_its, skipped}
pub use Rattle.desk_rows.specs.laws.ListLaws.{all_pass, count_by-filter}
pub use Rattle.desk_rows.proofs.JudgingLemmas.{bridge_same, own_claims, each_claim, sound_from, plain_later, sound_good}
pub use Rattle.desk_rows.proofs.ExchangeLemmas.{among_others}
pub use Rattle.desk_edit.specs.Forms.{form_of}
pub use Rattle.desk_edit.specs.Depends.{Names, Depends, IsDependent, goes_within, goes_with, without}
pub use Rattle.desk_edit.specs.Commands.{with_put, into_room, with_member_in, with_moved, desk_led}
pub use Rattle.desk_edit.specs.Refusals.{has, is_claimed, first_case, missing, lacking, is_replaced, is_other_claimed}
pub use Rattle.desk_edit.specs.Refusals.{is_ssrc_taken, rule_cases, table_of, is_full, full_cases, room_is_full}
pub use Rattle.desk_edit.specs.Refusals.{audio_cases, put_cases, is_audio_of, move_cases, cases_of}
pub use Rattle.desk_edit.specs.declared.refusal.Reason.{Reason}
pub use Rattle.desk_edit.specs.inner.Levels.{level, is_above, can_go, found_list, is_sound}
pub use Rattle.desk_edit.specs.inner.Edits.{placed_from, placed_in, puts_other, puts_member, replaces, puts_in_place}
pub use Rattle.desk_edit.specs.inner.Edits.{takes_all, moves_member, edit_for}
pub use Rattle.desk_edit.specs.inner.Moving.{row_into_room, picks, picked_with}
