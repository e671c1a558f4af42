use Rattle.escape_simd.proofs.Words.{◌≡◌, ℕ, refl, not, nat_eq, arith, nat_tests, reach}
use denote.Param.{number, value_of}
use Rattle.escape_simd.proofs.Stretches.{stored_from_paste}
use Rattle.escape_simd.proofs.simd.store.store_lanes.Goals.{then-this-ne0+then-this-gt-WIDEST_REACH, else-this-ne0, else-this-ne0-via-then-this-ne0+else-this-gt-WIDEST_REACH, else-this-ne0-via-else-this-ne0}
use Rattle.escape_simd.proofs.simd.store.store_lanes.Goals as goal

pub returns-clause-stored : goal.returns-clause-stored
returns-clause-stored g c =
    let n : ℕ = g.row.N in
    let width = g.met.V.LoadStore.width c.args.v in let r = c.requires in let lanes = g.V.LoadStore.lanes c.args.v in
    elim c.if-this-ne0.branch [
      | then-this-ne0+then-this-gt-WIDEST_REACH w ↦
          let e = w.store_front.ensures in
          rw w.target-is (stored_from_paste lanes e.same_slice e.bytes e.stored e.escaped e.quotes (omega arith) (omega (arith, width, r.0, r.1)) (omega arith) (omega (arith, r.3)) refl)
      | else-this-ne0 w ↦
          let whole : reach (not (nat_eq (value_of (number g.row.LAST)) 0)) n ≡ n = elim w.else-this-ne0.branch [
            | else-this-ne0-via-then-this-ne0+else-this-gt-WIDEST_REACH w' ↦ grind (arith, nat_tests, w'.if-this-gt-WIDEST_REACH.false)
            | else-this-ne0-via-else-this-ne0 w' ↦ grind (arith, nat_tests, w'.if-this-ne0.false)
          ] in
          let e = w.store.ensures in
          rw w.target-is (stored_from_paste lanes e.same_slice e.bytes e.stored e.escaped e.quotes r.1 (omega (arith, width, r.0)) (omega (arith, whole)) (omega (arith, r.3, whole)) refl)
    ]
