pub mod OscillatorControl
pub mod IoControl
