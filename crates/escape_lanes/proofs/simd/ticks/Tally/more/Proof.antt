-- A greater count is a value of no bytes, whose number is picked here.
use Rattle.std.proofs.Common.{[], ◌∷◌, ◌+◌, refl, w64}
use Rattle.std.proofs.raw_atomic.Walks.{proved}
use base.Fml.{ftrue}
use mir.Syntax.{named}
use mir.Val.{Val, vint, vptr, vstruct, vnil}
use types.Kit.{‵, raw, ◌⊛◌, ◌$◌, ◌∵◌, !, qed, done, keep, move, split, suffices}
use types.Part.{agg}
use types.Run.{enter, no_more, returns}
use types.ByLocal.{alloc_all, pass_all, free_all, look_at, sets}
use denote.Exit.{yes}
use denote.Builtin.{usize}
use denote.Plain.{uint_vals, uint_Tells}
use denote.Ref.{shr_vals, shr_Tells}
use denote.Shadow.{pure_i}
use denote.RattleType.{owns}
use denote.Signature.{plain, types_at}
use denote.Triple.Entry.{alive}
use denote.Triple.Walked.{Stays, stay_none, stay_none_ref, Goes-none, Goes-none_ref, walk_of, says, ends_at}
use Rattle.escape_lanes.specs.contracts.simd.ticks.Tally as tally
use Rattle.escape_lanes.specs.contracts.simd.ticks.Tally.more as f
use Rattle.escape_lanes.proofs.simd.ticks.Tally.more.Statement.{statement}
use Rattle.escape_lanes.proofs.simd.ticks.Tally.more.Code as code

abbrev stayed : Stays f.ended.signature.params f.ended.kept
stayed = (stay_none_ref (0 ∷ []) tt (plain (λ _. tally.the_row)) yes, (stay_none (λ _. usize) yes, tt))

pub more_spec : {M : Type 1} → statement M
more_spec 𝓤 𝓛 𝓜 𝓡 wired =
    let c = f.clauses 𝓛 𝓜.mem 𝓡.returns in let W = walk_of 𝓛 f.ended stayed c in
    proved 𝓛 f.ended stayed c 𝓜 𝓡 (Goes-none_ref 𝓛 1 (0 ∷ []) tt (plain (λ _. tally.the_row)) yes, (Goes-none 𝓛 1 (λ _. usize) yes (λ κs x f. refl), tt))
    f.Key.name code.function (code.unfolded 𝓤 𝓛.H 𝓜 𝓡 wired)
    (λ κs. (shr_vals, (uint_vals w64, tt))) (λ κs. (shr_Tells (named 0) κs.0 tally.the_row, (uint_Tells w64, tt))) (λ κs qs bounds a n are.
    let before : Val = vptr a.0.ref_ptr.0 a.0.ref_ptr.1 in
    let next : tally.the_row.Denot = record { count = a.0.now.count + a.1.0 } in
    let y : W.Ghost = ((κs, qs, bounds, a, (before ∷ [], (vint w64 a.1.0 ∷ [], tt))), n) in
    qed 𝓛 ((raw (alive 𝓛 f.signature κs qs) ⊛ ‵ (owns (types_at f.signature.params κs) a y.0.4)) ∷ ‵ ftrue ∷ []) ∵ keep ! (0 ∷ []) $ split ! $
    -- [the token of the lifetime; what the reference owns]
    enter ! _ _ _ _ _ $ alloc_all ! (λ l. pass_all ! refl ((tt, tt), ((tt, record { fits = are.1.0.1 }), tt)) $
    sets ! (agg ! (no_more !)) refl (tt, tt) $
    returns ! (look_at ! 0 refl) $ free_all ! refl $
    suffices ! _ (ends_at 𝓛 f.ended stayed c y (vstruct vnil) next (tt, (tt, tt)) (tt, (tt, tt))) $ says ! refl $
    pure_i ! (tally.the_row.own_val next (vstruct vnil ∷ [])) ((λ vss. (tt, tt)), tt) ((tt, (refl, tt)), tt) $
    move ! (1 ∷ 2 ∷ 0 ∷ []) $ done !))
