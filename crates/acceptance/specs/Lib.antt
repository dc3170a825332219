pub mod SceneTheorem
pub mod Examples
pub mod RunScene
