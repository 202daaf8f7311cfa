-- It looks at the book's log, which is past what both have seen, if that is one book. Assumes `Logic`.
use Rattle.std.proofs.Common.{◌≡◌, List, [], ◌∷◌, refl}
use mathlib.Core.List.{IsPrefix}
use mir.Syntax.{a_type, dcons, dnil, named}
use mir.Val.{Val, vunit, vptr}
use mir.MapTy.{inst_fn}
use base.Logic.{SProp, emp}
use base.Fml.{Fml, ftrue, fsep, flft, fhide}
use types.Kit.{‵, raw, ◌⊛◌, some, given, later, ◌$◌, ◌∵◌, !, qed, by, move, keep, drop, split}
use types.Kit.{fsplit, fsplit3, fjoin, fjoin3, pick, learn, use1, use2, await, feq_i}
use types.Run.{unit_lit, of_opd, returns, enter}
use types.ByLocal.{alloc_all, pass_all, free_all, look_at, sets}
use contract.Monad.{fact_i}
use contract.Running.{tables}
use denote.Exit.{yes}
use denote.RattleType.{RattleType, owns}
use denote.Signature.{types_at, plain}
use denote.Builtin.{RefOf}
use denote.Ref.{mut_vals, mut_Tells, shr_vals, shr_Tells}
use denote.Memory.{hidden_shr}
use denote.Opens.{unhide}
use denote.Steps.{nothing, opens, closes}
use denote.Param.{param, bounded}
use denote.Struct.Tuple.{Tuple}
use denote.Struct.Lending.{lent_out}
use denote.Triple.Walked.{Stays, stay_dropped, stay_ref, walk_of, Goes-dropped, Goes-ref}
use Rattle.std.specs.contracts.marker.PhantomData as marker
use Rattle.logbook.specs.Kept.{rules, seen_owns, reached}
use Rattle.logbook.specs.contracts.tokens.Seen as Seen
use Rattle.logbook.proofs.Walks.{proved}
use Rattle.logbook.proofs.Steps as steps
use Rattle.logbook.proofs.Fields.{Token, ends}
use Rattle.operator_threads.proofs.LearnLemmas.{learns_if}
use Rattle.operator_threads.specs.contracts.learning.learn_same.{ended, clauses}
use Rattle.operator_threads.specs.contracts.learning.learn_same.Key.{name as #key}
use Rattle.operator_threads.proofs.learning.learn_same.Statement.{statement}
use Rattle.operator_threads.proofs.learning.learn_same.Code as code

pub learn_same_spec : {M : Type 1} → statement M
learn_same_spec 𝓤 𝓛 𝓜 𝓡 wired E A P _ _ _ g d _ =
    let H = 𝓛.H in
    let 𝓣 = tables 𝓤 H 𝓜 𝓡 𝓡.env in
    let E' : RattleType = param 0 E in
    let A' : RattleType = param 1 A in
    let P' : RattleType = param 2 P in
    let row : RattleType = Seen.the_row E' A' P' g in
    let En = ended E A P g d in
    let inst = bounded (a_type ∷ a_type ∷ a_type ∷ []) (E, (A, (P, tt))) (dcons d dnil) in
    let fn = inst_fn inst code.function in
    let c = clauses E A P g d 𝓛 𝓜.mem 𝓡.returns in
    let rule = rules g.holds g.shows g.keeps in
    let cv = E'.coded in
    let All : RattleType = Tuple (E' ∷ A' ∷ P' ∷ []) in
    let hs : Stays En.signature.params En.kept = (
      stay_ref (0 ∷ []) tt (plain (λ _. row)),
      (stay_dropped (RefOf (1 ∷ []) tt (plain (λ _. row)) (λ _. tt)) yes, tt),
    ) in
    proved 𝓛 En hs c 𝓜 𝓡 (
      Goes-ref 𝓛 5 0 tt (plain (λ _. row)),
      (Goes-dropped 𝓛 5 (RefOf (1 ∷ []) tt (plain (λ _. row)) (λ _. tt)) yes (λ κs x f. refl), tt),
    )
    (#key inst) fn (code.unfolded 𝓤 H 𝓜 𝓡 wired (E, (A, (P, tt))) d)
    (λ κs. (mut_vals, (shr_vals, tt)))
    (λ κs. (mut_Tells (named 0) κs.0 row, (shr_Tells (named 1) κs.1.0 row, tt)))
    (λ κs qs bounds a gh are.
    let me = a.0.now in
    let other = a.1.0.now in
    let b = a.0.ref_ptr.0 in
    let o = a.0.ref_ptr.1 in
    let b' = a.1.0.ref_ptr.0 in
    let o' = a.1.0.ref_ptr.1 in
    let y : (walk_of 𝓛 En hs c).Ghost = ((κs, qs, bounds, a, (vptr b o ∷ [], (vptr b' o' ∷ [], tt))), gh) in
    let Post : Val → SProp 𝓤 = (walk_of 𝓛 En hs c).post y in
    let toks : Fml =
    fsep (flft κs.0 qs.0)
    (fsep (flft κs.1.0 qs.1.0)
    (fsep (flft κs.1.1.0 qs.1.1.0)
    (fsep (flft κs.1.1.1.0 qs.1.1.1.0) (fsep (flft κs.1.1.1.1.0 qs.1.1.1.1.0) ftrue)))) in
    qed 𝓛 ((‵ toks ⊛ ‵ (owns (types_at En.signature.params κs) a y.0.4)) ∷ raw ((c κs a).requires gh) ∷ []) ∵
    keep ! (0 ∷ []) $ split ! $ fsplit ! $ move ! (1 ∷ []) $ fsplit ! $ move ! (3 ∷ []) $ fsplit ! $ fsplit3 ! $
    move ! (3 ∷ []) $ fsplit ! $ fsplit ! $ keep ! (1 ∷ 4 ∷ 5 ∷ 6 ∷ 7 ∷ 8 ∷ []) $
    enter ! 𝓣.C 𝓣.Λ fn (vptr b o ∷ vptr b' o' ∷ []) Post $
    alloc_all ! (λ l. pass_all ! refl ((tt, tt), ((tt, tt), tt)) $
    use1 𝓛
    (‵ (hidden_shr (Token All) κs.1.0 (record {}, tt) b' o')
    ⊛ ‵ (fhide (seen_owns cv.code rule other.book other.names other.log)))
    (lent_out 𝓛 (Seen.struct E' A' P' g)
    (Seen.the_codes E.Denot A.Denot P.Denot E'.coded A'.coded P'.coded (marker.the_row All).coded)
    (Seen.the_heap E' A' P' g) (Seen.the_lent E' A' P' g) κs.1.0 other b' o') $
    split ! $ drop ! $ unhide ! $
    use1 𝓛 (‵ (reached cv.code other.book.log_name other.log))
    (steps.seen_log 𝓛 cv rule other.book other.names other.log) $
    move ! (1 ∷ 2 ∷ 5 ∷ []) $
    opens ! tt row b o (λ vs0. move ! (1 ∷ []) $ fsplit ! $ move ! (1 ∷ 6 ∷ []) $
    use2 𝓛
    (later
    (some
    (λ (log : List E.Denot).
    given (other.book ≡ me.book → IsPrefix me.log log × IsPrefix other.log log)
    (‵ (seen_owns cv.code rule me.book me.names log)))))
    (learns_if 𝓛 cv rule me.book me.names me.log other.book other.log) $
    await ! tt $ pick ! (λ log. learn ! (λ so.
    move ! (1 ∷ 0 ∷ []) $ fjoin ! $ move ! (1 ∷ 0 ∷ 2 ∷ 3 ∷ 4 ∷ []) $
    closes ! tt row (record { marker = record {}; book = me.book; names = me.names; log = log }) vs0 b o $
    sets ! (of_opd ! (unit_lit !)) refl (tt, tt) $ feq_i ! (List Val) (vunit ∷ []) (vunit ∷ []) refl $
    move ! (4 ∷ 5 ∷ []) $ fjoin ! $ move ! (4 ∷ 0 ∷ []) $ fjoin ! $ nothing ! $ nothing ! $ fjoin ! $
    feq_i ! (List Val) (vptr b o ∷ []) (vptr b o ∷ []) refl $
    move ! (0 ∷ 4 ∷ 5 ∷ []) $ fjoin3 ! $ fjoin ! $
    returns ! (look_at ! 0 refl) $ free_all ! refl $ keep ! (1 ∷ 0 ∷ 2 ∷ []) $
    by ! (ends 𝓛 En hs c y vunit tt
    (record { marker = record {}; book = me.book; names = me.names; log = log }, (tt, tt)) (tt, (tt, tt))
    (fact_i 𝓤 _ (emp 𝓤) so)))))))
