-- The words that laws and proofs speak in, passed on from one place. Declares nothing.
pub use Rattle.std.proofs.Common.{◌≡◌, ℕ, zero, suc, ◌<◌, ◌≤◌, Bool, true, false, cond, ◌||◌, List, [], ◌∷◌, length}
pub use Rattle.std.proofs.Common.{get_or, nat_lt, Option, None, Some, refl, sym, ap, ◌∙◌, arith, ◌++◌, map, ◌+◌, ◌-◌}
pub use Rattle.std.proofs.Common.{nat_eq, not, ◌&&◌, inl, inr, if◌then◌else◌, filter, eqb-true, ◌⊎◌, take, drop, insert}
pub use Rattle.std.proofs.Common.{remove, nat_le, subst, append_assoc, append-nil, set, rules, vec_len, vec_capacity}
pub use Rattle.std.proofs.Common.{◌^◌, zero-add, length-append, le_of_eq}
pub use Rattle.rtp_codec.specs.declared.address.Address.{Address}
pub use Rattle.std.specs.declared.cmp.Ordering.TheVariants.{Less, Equal, Greater}
pub use Rattle.rtp_codec.specs.Address.{same_address}
pub use Rattle.std.proofs.lemmas.Bool.{or_left, or_right, or_cases, and_parts, and_from, cases_Bool, cond-true}
pub use Rattle.std.proofs.lemmas.Bool.{cond-false, true_from_ne_false, false_from_ne_true, not-true, not-false}
pub use Rattle.std.proofs.lemmas.Bool.{or_parts, and_left, and_right, leb-true, leb-false, le-leb, cases_lt}
pub use Rattle.std.proofs.lemmas.List.Edits.{length-insert, length-remove}
pub use Rattle.std.proofs.lemmas.List.Filters.{length-filter_both}
pub use Rattle.std.proofs.lemmas.Option.{slice_get-get_or}
pub use Rattle.std.proofs.lemmas.Bool.Decides.{nat_tests}
pub use Rattle.std.proofs.lemmas.Fn.{always_returns_same, filter_same}
pub use Rattle.std.proofs.lemmas.Grind.{common_steps}
pub use Rattle.std.proofs.lemmas.List.Elements.{All-nil, All-cons, All-head, All-tail, All-weaker, filter-append}
pub use Rattle.std.proofs.lemmas.List.Folds.{list_any-append, fold-map, find_at, find-append, list_all-append}
pub use Rattle.std.proofs.lemmas.List.Folds.{list_all-map}
pub use Rattle.std.proofs.lemmas.List.Sorted.{sum_by-IsPermutation, All-permutation, list_any-IsPermutation}
pub use Rattle.std.proofs.lemmas.List.Sorted.{answers_always, searchable_from_sorted, IsPartitionPoint-from_clause}
pub use Rattle.std.proofs.lemmas.List.Sorted.{IsPartitionedBy-ltb, IsPartitionedBy-leb, IsNonDecreasingBy-drop}
pub use Rattle.std.proofs.lemmas.List.Sorted.{IsNonDecreasingBy-from_sort_by_key, IsPermutation-insert}
pub use Rattle.std.proofs.lemmas.List.Sorted.{IsPermutation-remove}
pub use Rattle.std.proofs.lemmas.List.{length-map}
pub use Rattle.std.proofs.lemmas.List.Sums.{count_by-le-length, sum_by-append, sum_by-cons, prefix_len_is}
pub use Rattle.std.proofs.lemmas.List.Sums.{length-filter}
pub use Rattle.std.proofs.lemmas.Slice.Eq.{bytes_eq-Decides}
pub use Rattle.std.specs.Cmp.{IsTotalOrder, on_total, then_total, nat_cmp_total, both_tied, unsigned_ties}
pub use Rattle.std.specs.Cmp.Lexicographic.{slice_cmp, nat_list_cmp_total, lists_ties}
pub use Rattle.std.specs.List.{HoldsAt, find, list_any, list_all, filter_map, cons_option, All, slice_get}
pub use Rattle.std.specs.List.Sorted.{IsPartitionPoint, IsNonDecreasingBy, IsPermutation, IsSortedByKey}
pub use Rattle.std.specs.List.Sorted.{IsPartitionedBy}
pub use Rattle.std.specs.Option.{is_some, option_map, option_and_then, option_or}
pub use Rattle.std.specs.Ordering.{nat_cmp, is_eq, is_lt, ordering_then}
pub use Rattle.std.specs.Prelude.{count_by, Contains, IfSome, IfNone}
pub use Rattle.std.specs.Str.{bytes_eq}
pub use borrow.Author.Tests.{eq-eqb}
pub use Rattle.desk_rows.specs.declared.claim.Claim.{Claim}
pub use Rattle.desk_rows.specs.declared.edit.Placed.{Placed}
pub use Rattle.desk_rows.specs.declared.tables.index.IndexEntry.{IndexEntry}
pub use Rattle.desk_rows.specs.declared.row.Codec.{Codec}
pub use Rattle.desk_rows.specs.declared.key.Key.{Key}
pub use Rattle.desk_rows.specs.declared.key.Kind.{Kind}
pub use Rattle.desk_rows.specs.declared.row.Media.{Media}
pub use Rattle.desk_rows.specs.declared.row.Media.TheVariants.{Audio, Video}
pub use Rattle.desk_rows.specs.declared.row.Member.{Member as MemberRow}
pub use Rattle.desk_rows.specs.declared.row.Row.{Row}
pub use Rattle.desk_rows.specs.declared.row.Row.TheVariants.{Member, Room, Source, Slot, Sub, Mute, Gain, Pin, Floor}
pub use Rattle.desk_rows.specs.declared.row.Slot.{Slot as SlotRow}
pub use Rattle.desk_rows.specs.declared.row.Sub.{Sub as SubRow}
pub use Rattle.desk_rows.specs.Desk.{Desk, member_at_address, rows_of, blank, is_named_there, row_at, is_alone}
pub use Rattle.desk_rows.specs.Desk.{is_within_limits, is_made_once, is_bridges, obeys, count_of, room_of_member}
pub use Rattle.desk_rows.specs.Desk.{room_of, room_of_found, room_at, same_room, is_audio_in, all_suit, are_together}
pub use Rattle.desk_rows.specs.Desk.{rows_of_kind, is_listed}
unfoldable pub use Rattle.desk_rows.specs.Desk.{good}
pub use Rattle.desk_rows.specs.Edit.{EditOf, outs, ins, inverse}
unfoldable pub use Rattle.desk_rows.specs.Exchange.{exchanged, is_apt, fits, after}
pub use Rattle.desk_rows.specs.Getters.{room_in, member_in, source_in, slot_in, sub_in, pin_in, floor_in}
pub use Rattle.desk_rows.specs.Getters.{room_row_at, member_at, source_at, slot_at, sub_at, pin_at, floor_at}
pub use Rattle.desk_rows.specs.Keyed.{IsKeyed}
pub use Rattle.desk_rows.specs.Kinds.{is_of}
pub use Rattle.desk_rows.specs.Limits.{member_limit, slot_limit, other_limit, room_limit, source_limit, gain_limit}
pub use Rattle.desk_rows.specs.Limits.{room_audio_limit}
pub use Rattle.desk_rows.specs.Naming.{is_gain_of, subs_naming, slots_naming, members_in}
pub use Rattle.desk_rows.specs.Numbers.{numbers_precede, same_numbers}
pub use Rattle.desk_rows.specs.Order.{is_in, with_rows, in_order, without_rows, precedes, with_row, key_precedes}
pub use Rattle.desk_rows.specs.Order.{key_is_new, are_apart, have_same_keys}
pub use Rattle.desk_rows.specs.Places.{take_at, can_take, can_put, places_rise, place_in, is_at, put_at}
pub use Rattle.desk_rows.specs.Row.{same_row, has_key, rank, kind_of, own_numbers, key_numbers, key_of, owner_of}
pub use Rattle.desk_rows.specs.Row.{same_key, makes, same_claim, other_claims, claims_of, names, same_media, Want}
pub use Rattle.desk_rows.specs.Row.{suits, is_in_range, claim_numbers}
pub use Rattle.desk_rows.specs.Values.{row_values, row_with, codec_number, media_number, same_value, same_values}
pub use Rattle.desk_rows.specs.inner.tables.Addressed.{ip_and_port, address_cmp, IsByAddress}
pub use Rattle.desk_rows.specs.inner.judging.Found.{finds, is_elsewhere}
pub use Rattle.desk_rows.specs.inner.tables.Grouped.{stand_by, in_turn, passes_if, passes_in, IsTableOf}
pub use Rattle.desk_rows.specs.inner.tables.Index.{entries_from, entry_in, IsIndex}
pub use Rattle.desk_rows.specs.inner.judging.Judged.{listed_rows, change_rows, come_rows, takes, puts, stay_rows}
pub use Rattle.desk_rows.specs.inner.judging.Judged.{stay_count, go_count, come_count, all_come, all_stay, go_rows}
pub use Rattle.desk_rows.specs.inner.judging.Judged.{keeps_names, moves, is_shaken, is_free, comes_once, HasOrders}
unfoldable pub use Rattle.desk_rows.specs.inner.judging.Judged.{is_sound, stays_sound, keys_are_new, is_sound_beside}
unfoldable pub use Rattle.desk_rows.specs.inner.judging.Judged.{judged}
pub use Rattle.desk_rows.specs.inner.Listed.{desk_of}
pub use Rattle.desk_rows.specs.inner.tables.Parting.{Parts, is_found_as}
pub use Rattle.desk_rows.specs.inner.tables.Roomed.{IsByRoom}
pub use Rattle.desk_rows.specs.inner.judging.Within.{put_within}
