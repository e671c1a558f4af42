-- A count of 0 is a value of no bytes, whose number is picked here.
use Rattle.std.proofs.Common.{[], ◌∷◌, refl}
use Rattle.std.proofs.raw_atomic.Walks.{proved}
use base.Fml.{ftrue}
use mir.Val.{vstruct, vnil}
use types.Kit.{‵, raw, ◌$◌, ◌∵◌, !, qed, done, drop, suffices}
use types.Part.{agg}
use types.Run.{enter, no_more, returns}
use types.ByLocal.{alloc_all, pass_all, free_all, look_at, sets}
use denote.Shadow.{pure_i}
use denote.Steps.{nothing}
use denote.Triple.Entry.{on_entry}
use denote.Triple.Walked.{Stays, walk_of, says, ends_at}
use Rattle.escape_lanes.specs.contracts.simd.ticks.Tally as tally
use Rattle.escape_lanes.specs.contracts.simd.ticks.Tally.new as f
use Rattle.escape_lanes.proofs.simd.ticks.Tally.new.Statement.{statement}
use Rattle.escape_lanes.proofs.simd.ticks.Tally.new.Code as code

abbrev stayed : Stays f.ended.signature.params f.ended.kept
stayed = tt

pub new_spec : {M : Type 1} → statement M
new_spec 𝓤 𝓛 𝓜 𝓡 wired =
    let c = f.clauses 𝓛 𝓜.mem 𝓡.returns in let W = walk_of 𝓛 f.ended stayed c in
    proved 𝓛 f.ended stayed c 𝓜 𝓡 tt f.Key.name code.function (code.unfolded 𝓤 𝓛.H 𝓜 𝓡 wired)
    (λ κs. tt) (λ κs. tt) (λ κs qs bounds a n are.
    let zero_count : tally.the_row.Denot = record { count = 0 } in
    let y : W.Ghost = ((κs, qs, bounds, a, tt), n) in
    qed 𝓛 (raw (on_entry 𝓛 f.signature κs qs a y.0.4) ∷ ‵ ftrue ∷ []) ∵ drop ! $ drop ! $
    enter ! _ _ _ _ _ $ alloc_all ! (λ l. pass_all ! refl tt $
    sets ! (agg ! (no_more !)) refl (tt, tt) $
    returns ! (look_at ! 0 refl) $ free_all ! refl $
    suffices ! _ (ends_at 𝓛 f.ended stayed c y (vstruct vnil) zero_count tt tt) $ says ! refl $
    pure_i ! (tally.the_row.own_val zero_count (vstruct vnil ∷ [])) ((λ vss. (tt, tt)), tt) ((tt, (refl, tt)), tt) $
    nothing ! $ nothing ! $ done !))
