pub mod DemoScript
