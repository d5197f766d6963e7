-- "show that two replies it allows are equal" (document 01, "What the contracts owe"), of the exported calls: by each function's own `ensures`, as in crate `demands`, of the arguments a, the number r that it answers
-- and what is lent at the end, e. The table is the first lent list, the whole numbers the second, the results the last. Assumes nothing.
use mathlib.Core.Path.{◌≡◌, sym, ◌∙◌}
use Rattle.flat_out.specs.Ends.{flat}
use Rattle.demands.specs.Same.{Same}
use Rattle.demands.proofs.Determined.{one_end}
use Rattle.exports.proofs.vehicle_root.Reads as root
use Rattle.exports.proofs.vehicle_sine.Reads as sine
use Rattle.exports.proofs.vehicle_cosine.Reads as cosine
use Rattle.exports.proofs.vehicle_set_up.Reads as set-up
use Rattle.exports.proofs.vehicle_add_wheel.Reads as add-wheel
use Rattle.exports.proofs.vehicle_set_controls.Reads as set-controls
use Rattle.exports.proofs.vehicle_set_controls_by_angle.Reads as set-controls-by-angle
use Rattle.exports.proofs.vehicle_aim.Reads as aim
use Rattle.exports.proofs.vehicle_drive.Reads as drive
use Rattle.exports.proofs.vehicle_read_wheel.Reads as read-wheel

pub root_determined : (κs : _) (a : _) (r r' : _) (e e' : _) → root.Post κs a r e → root.Post κs a r' e' → r ≡ r'
root_determined κs a r r' e e' p q = p ∙ sym q

pub sine_determined : (κs : _) (a : _) (r r' : _) (e e' : _) → sine.Post κs a r e → sine.Post κs a r' e' → r ≡ r'
sine_determined κs a r r' e e' p q = p ∙ sym q

pub cosine_determined : (κs : _) (a : _) (r r' : _) (e e' : _) → cosine.Post κs a r e → cosine.Post κs a r' e' → r ≡ r'
cosine_determined κs a r r' e e' p q = p ∙ sym q

pub set_up_determined : (κs : _) (a : _) (r r' : _) (e e' : _) → set-up.Post κs a r e → set-up.Post κs a r' e' → Same r r' e.0.now e'.0.now e.1.0.now e'.1.0.now
set_up_determined κs a r r' e e' p q = one_end p q

pub add_determined : (κs : _) (a : _) (r r' : _) (e e' : _) → add-wheel.Post κs a r e → add-wheel.Post κs a r' e' → Same r r' e.0.now e'.0.now e.1.0.now e'.1.0.now
add_determined κs a r r' e e' p q = one_end p q

pub controls_determined : (κs : _) (a : _) (r r' : _) (e e' : _) → set-controls.Post κs a r e → set-controls.Post κs a r' e' → Same r r' e.0.now e'.0.now e.1.0.now e'.1.0.now
controls_determined κs a r r' e e' p q = one_end p q

pub controls_by_angle_determined : (κs : _) (a : _) (r r' : _) (e e' : _) → set-controls-by-angle.Post κs a r e → set-controls-by-angle.Post κs a r' e'
    → Same r r' e.0.now e'.0.now e.1.0.now e'.1.0.now
controls_by_angle_determined κs a r r' e e' p q = one_end p q

pub aim_determined : (κs : _) (a : _) (r r' : _) (e e' : _) → aim.Post κs a r e → aim.Post κs a r' e'
    → Same (flat r e.1.1.1.0.now) (flat r' e'.1.1.1.0.now) e.0.now e'.0.now e.1.0.now e'.1.0.now
aim_determined κs a r r' e e' p q = one_end p q

pub drive_determined : (κs : _) (a : _) (r r' : _) (e e' : _) → drive.Post κs a r e → drive.Post κs a r' e'
    → Same (flat r e.1.1.1.1.1.1.1.1.0.now) (flat r' e'.1.1.1.1.1.1.1.1.0.now) e.0.now e'.0.now e.1.0.now e'.1.0.now
drive_determined κs a r r' e e' p q = one_end p q

pub read_determined : (κs : _) (a : _) (r r' : _) (e e' : _) → read-wheel.Post κs a r e → read-wheel.Post κs a r' e' → flat r e.1.1.1.0.now ≡ flat r' e'.1.1.1.0.now
read_determined κs a r r' e e' p q = (one_end p q).reply

-- none of them asks for anything of what it is handed or lent
pub none_requires : ((κs : _) (a : _) → root.Pre κs a) × (((κs : _) (a : _) → sine.Pre κs a) × (((κs : _) (a : _) → cosine.Pre κs a) × (((κs : _) (a : _) → set-up.Pre κs a) × (((κs : _) (a : _) → add-wheel.Pre κs a) × (((κs : _) (a : _) → set-controls.Pre κs a) × (((κs : _) (a : _) → set-controls-by-angle.Pre κs a) × (((κs : _) (a : _) → aim.Pre κs a) × (((κs : _) (a : _) → drive.Pre κs a) × ((κs : _) (a : _) → read-wheel.Pre κs a)))))))))
none_requires = (λ κs a. tt, (λ κs a. tt, (λ κs a. tt, (λ κs a. tt, (λ κs a. tt, (λ κs a. tt, (λ κs a. tt, (λ κs a. tt, (λ κs a. tt, λ κs a. tt)))))))))
