-- Lists of edits are taken back, and a good desk stays good.
use Rattle.std.proofs.Common.{◌≡◌, Bool, true, false, List, [], ◌∷◌, ◌++◌, fold, refl, cond}
use Rattle.undo_log.specs.Timeline.{rewound}
use Rattle.undo_log.specs.laws.ListLaws.{all_undone}
use Rattle.desk_rows.specs.Desk.{Desk, good}
use Rattle.desk_rows.specs.Edit.{EditOf, inverse as one_inverse}
use Rattle.desk_rows.specs.Exchange.{fits as one_fits, exchanged, after as one_after}
use Rattle.desk_rows.specs.laws.Laws.{fits_parts, inverse_fits, undoes as one_undoes}
use Rattle.desk_calls.specs.Edits.{fits, after, inverse}

pub undoes : (d : Desk) (es : List EditOf) → fits d es ≡ true → after (after d es) (inverse es) ≡ d
undoes d es fit = all_undone one_fits one_after one_inverse inverse_fits one_undoes d es fit

-- one more edit is taken back
pub rewound_one_more : (d : Desk) (es : List (List EditOf)) (e : List EditOf)
    → rewound after inverse d (es ++ e ∷ []) ≡ after (rewound after inverse d es) (inverse e)
rewound_one_more d [] e = refl
rewound_one_more d (x ∷ es) e = rewound_one_more (after d (inverse x)) es e

-- a good desk stays good, whatever the edit
one_still_good : (d : Desk) (e : EditOf) → good d ≡ true → good (one_after d e) ≡ true
unfolding one_after
one_still_good d e begins = by (one_fits d e) refl
  where
    by : (b : Bool) → one_fits d e ≡ b → good (cond b (exchanged d e) d) ≡ true
    by true h = (fits_parts d e h).later
    by false h = begins

along_good : (d : Desk) (es : List EditOf) → good d ≡ true → good (fold one_after d es) ≡ true
along_good d [] begins = begins
along_good d (e ∷ es) begins = along_good (one_after d e) es (one_still_good d e begins)

-- a good desk stays good, whatever the edits
pub still_good : (d : Desk) (es : List EditOf) → good d ≡ true → good (after d es) ≡ true
still_good d es begins = by (fits d es) refl
  where
    by : (b : Bool) → fits d es ≡ b → good (cond b (fold one_after d es) d) ≡ true
    by true h = along_good d es begins
    by false h = begins
